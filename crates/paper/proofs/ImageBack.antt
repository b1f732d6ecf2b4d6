-- What reads as a good image is the image of the run read: no two byte strings read as one run.
-- Assumes nothing.
use Prim.Native.Nat.{ℕ, zero, suc, ◌+◌, ◌*◌, ◌/◌, ◌%◌, ◌^◌, ◌<◌, ◌≤◌}
use native.Mathlib.Nat.{mod-eq_of_lt, pow-succ', add_comm, add-mul-div_right, add-mul-mod_self_right, mul-le-mul_right}
use native.Mathlib.Omega.{arith}
use mathlib.Core.Path.{◌≡◌, refl, sym, ap, ap₂, ◌∙◌, subst}
use mathlib.Core.Bool.{Bool, true, false, cond}
use mathlib.Core.List.{[], ◌∷◌, ◌++◌, append_assoc, append-nil}
use mathlib.Core.Option.{Option, none, some, none-ne-some, some-injective}
use lib.ListN.{length, take, drop, length-take, length-append, take-append-drop}
use lib.Arith.{digits_div}
use lib.Dec.{leb, ltb, eqb, lit<}
use borrow.Author.Tests.{le-leb, leb-true, ltb-true, eqb-true}
use Rattle.paper.specs.Lists.{all, total}
use Rattle.paper.specs.Keys.{octets, Bytes, Version, cmp_key, same_key}
use Rattle.paper.specs.Runs.{Run, version_size, run_size}
use Rattle.paper.specs.Settings.{longest, most_number}
use Rattle.paper.specs.Image.{big_endian, record_bytes, records_bytes, after, bytes, number_from, number, one_record, records, body, good, broken, foreign, mark, image_of, is_whole, judge_mark, judge_version, judge_records, verdict, storable}
use Rattle.paper.proofs.Bools.{and_left, and_right, and_intro, is_same-eq}
use Rattle.paper.proofs.Alls.{all_head, all_tail}
use Rattle.paper.specs.Store.{image_size}
use Rattle.paper.proofs.KeyOrder.{key-eq}
use Rattle.paper.proofs.ImageLaws.{pow256-pos, length-big_endian}

-- ---- numbers
pub number_more : (a : ℕ) (b : Bytes) → number_from a b ≡ a * 256 ^ length b + number_from 0 b
unfolding number_from
number_more a [] = omega arith
number_more a (x ∷ xs) =
    number_more (a * 256 + x) xs
    ∙ let m = number_more (0 * 256 + x) xs in rw (m, pow-succ') (omega arith)

pub number-below : (b : Bytes) → octets b ≡ true → number_from 0 b < 256 ^ length b
unfolding number_from octets
number-below [] h = lit< tt
number-below (x ∷ xs) h =
    let l : x < 256 = ltb-true x 256 (all_head (λ b. ltb b 256) x xs h) in
    let m = number_more (0 * 256 + x) xs in
    let r : number_from 0 xs < 256 ^ length xs = number-below xs (all_tail (λ b. ltb b 256) x xs h) in
    let q : x ≤ 255 = omega arith in
    rw (m, pow-succ') (omega (arith, mul-le-mul_right (256 ^ length xs) q))

-- the w low bytes go by the remainder
low-bytes : (w q n : ℕ) → big_endian w (q * 256 ^ w + n) ≡ big_endian w n
unfolding big_endian
low-bytes zero q n = refl
low-bytes (suc w) q n =
    let p : q * 256 ^ suc w + n ≡ (q * 256) * 256 ^ w + n = rw pow-succ' (omega arith) in
    let d : ((q * 256) * 256 ^ w + n) / 256 ^ w % 256 ≡ n / 256 ^ w % 256 =
    ap (λ (m : ℕ). m / 256 ^ w % 256) (add_comm ((q * 256) * 256 ^ w) n) ∙ ap (λ (m : ℕ). m % 256) (add-mul-div_right n (q * 256) (pow256-pos w))
    ∙ add-mul-mod_self_right (n / 256 ^ w) q 256 in
    ap (λ (m : ℕ). m / 256 ^ w % 256 ∷ big_endian w m) p
    ∙ ap₂ {C = Bytes} (λ m l. m ∷ l) d (low-bytes w (q * 256) n)

-- bytes are their number's bytes
pub bytes-again : (b : Bytes) → octets b ≡ true → big_endian (length b) (number_from 0 b) ≡ b
unfolding number_from octets big_endian
bytes-again [] h = refl
bytes-again (x ∷ xs) h =
    let l : x < 256 = ltb-true x 256 (all_head (λ b. ltb b 256) x xs h) in
    let o = all_tail (λ b. ltb b 256) x xs h in
    let m : number_from (0 * 256 + x) xs ≡ x * 256 ^ length xs + number_from 0 xs = number_more (0 * 256 + x) xs ∙ omega arith in
    let d : (x * 256 ^ length xs + number_from 0 xs) / 256 ^ length xs % 256 ≡ x =
    ap (λ (n : ℕ). n % 256) (digits_div x (number-below xs o)) ∙ mod-eq_of_lt l in
    ap (λ (n : ℕ). n / 256 ^ length xs % 256 ∷ big_endian (length xs) n) m
    ∙ ap₂ {C = Bytes} (λ n t. n ∷ t) d (low-bytes (length xs) x (number_from 0 xs) ∙ bytes-again xs o)

-- ---- readings, taken apart
-- a reading after another that gave something: the first gave something too
pub after_read : {A B : Type 0} (o : Option (A × Bytes)) (f : A → Bytes → Option (B × Bytes)) (b : B) (r : Bytes) → after o f ≡ some (b, r)
    → (a : A) × (t : Bytes) × (o ≡ some (a, t)) × (f a t ≡ some (b, r))
after_read none f b r e = absurd (none-ne-some (b, r) e)
after_read (some p) f b r e = (p.0, p.1, refl, e)

pub bytes_read : (n : ℕ) (s a r : Bytes) → bytes n s ≡ some (a, r) → (s ≡ a ++ r) × (length a ≡ n)
unfolding bytes
bytes_read n s a r e = here (leb n (length s)) refl
  where
    here : (b : Bool) → leb n (length s) ≡ b → (s ≡ a ++ r) × (length a ≡ n)
    here true h =
        let k : ◌≡◌ {A = Option (Bytes × Bytes)} (some (take n s, drop n s)) (some (a, r)) = simp h at e in
        let i : ◌≡◌ {A = Bytes × Bytes} (take n s, drop n s) (a, r) = some-injective (take n s, drop n s) (a, r) k in
        let p : take n s ≡ a = ap (λ (x : Bytes × Bytes). x.0) i in
        let q : drop n s ≡ r = ap (λ (x : Bytes × Bytes). x.1) i in
        (sym (take-append-drop n s) ∙ ap₂ (λ (x y : Bytes). x ++ y) p q, ap length (sym p) ∙ length-take n s ∙ omega (arith, leb-true n (length s) h))
    here false h =
        let k : ◌≡◌ {A = Option (Bytes × Bytes)} none (some (a, r)) = simp h at e in
        absurd (none-ne-some (a, r) k)

pub octets-left : (a r : Bytes) → octets (a ++ r) ≡ true → octets a ≡ true
unfolding octets all
octets-left [] r h = refl
octets-left (x ∷ xs) r h = and_intro (and_left (ltb x 256) (octets (xs ++ r)) h) (octets-left xs r (and_right (ltb x 256) (octets (xs ++ r)) h))

pub octets-right : (a r : Bytes) → octets (a ++ r) ≡ true → octets r ≡ true
unfolding octets all
octets-right [] r h = h
octets-right (x ∷ xs) r h = octets-right xs r (and_right (ltb x 256) (octets (xs ++ r)) h)

number-found : (w : ℕ) (s : Bytes) (n : ℕ) (r b t : Bytes) → octets s ≡ true → bytes w s ≡ some (b, t) → ◌≡◌ {A = Option (ℕ × Bytes)} (some (number_from 0 b, t)) (some (n, r))
    → (s ≡ big_endian w n ++ r) × (n < 256 ^ w)
number-found w s n r b t o p q =
    let u = bytes_read w s b t p in
    let i : ◌≡◌ {A = ℕ × Bytes} (number_from 0 b, t) (n, r) = some-injective (number_from 0 b, t) (n, r) q in
    let j : number_from 0 b ≡ n = ap (λ (x : ℕ × Bytes). x.0) i in
    let k : t ≡ r = ap (λ (x : ℕ × Bytes). x.1) i in
    let c : octets b ≡ true = octets-left b t (ap octets (sym u.0) ∙ o) in
    let d : big_endian w n ≡ b = ap₂ big_endian (sym u.1) (sym j) ∙ bytes-again b c in
    (u.0 ∙ ap₂ (λ (x y : Bytes). x ++ y) (sym d) k, subst (λ (x : ℕ). x < 256 ^ w) j (subst (λ (x : ℕ). number_from 0 b < 256 ^ x) u.1 (number-below b c)))

pub number_read : (w : ℕ) (s : Bytes) (n : ℕ) (r : Bytes) → octets s ≡ true → number w s ≡ some (n, r) → (s ≡ big_endian w n ++ r) × (n < 256 ^ w)
unfolding number
number_read w s n r o e =
    let (b, t, p, q) = after_read (bytes w s) (λ b t. some (number_from 0 b, t)) n r e in
    number-found w s n r b t o p q

-- ---- a record
record-found : (s : Bytes) (v : Version) (r : Bytes) (n t m : ℕ) (k b s₁ s₂ s₃ s₄ s₅ : Bytes) → octets s ≡ true
    → number 2 s ≡ some (n, s₁) → bytes n s₁ ≡ some (k, s₂) → number 8 s₂ ≡ some (t, s₃) → number 2 s₃ ≡ some (m, s₄) → bytes m s₄ ≡ some (b, s₅)
    → ◌≡◌ {A = Option (Version × Bytes)} (some (record { key = k; time = t; value = b }, s₅)) (some (v, r))
    → (s ≡ record_bytes v ++ r) × (storable v ≡ true) × (octets r ≡ true)
unfolding record_bytes storable
record-found s v r n t m k b s₁ s₂ s₃ s₄ s₅ o e₁ e₂ e₃ e₄ e₅ e₆ =
    let u₁ = number_read 2 s n s₁ o e₁ in
    let o₁ : octets s₁ ≡ true = octets-right (big_endian 2 n) s₁ (ap octets (sym u₁.0) ∙ o) in
    let u₂ = bytes_read n s₁ k s₂ e₂ in
    let o₂ : octets s₂ ≡ true = octets-right k s₂ (ap octets (sym u₂.0) ∙ o₁) in
    let u₃ = number_read 8 s₂ t s₃ o₂ e₃ in
    let o₃ : octets s₃ ≡ true = octets-right (big_endian 8 t) s₃ (ap octets (sym u₃.0) ∙ o₂) in
    let u₄ = number_read 2 s₃ m s₄ o₃ e₄ in
    let o₄ : octets s₄ ≡ true = octets-right (big_endian 2 m) s₄ (ap octets (sym u₄.0) ∙ o₃) in
    let u₅ = bytes_read m s₄ b s₅ e₅ in
    let o₅ : octets s₅ ≡ true = octets-right b s₅ (ap octets (sym u₅.0) ∙ o₄) in
    let i = some-injective (record { key = k; time = t; value = b }, s₅) (v, r) e₆ in
    let w : ◌≡◌ {A = Version} (record { key = k; time = t; value = b }) v = ap (λ (x : Version × Bytes). x.0) i in
    let j : s₅ ≡ r = ap (λ (x : Version × Bytes). x.1) i in
    let whole : s ≡ big_endian 2 (length k) ++ (k ++ (big_endian 8 t ++ (big_endian 2 (length b) ++ (b ++ s₅)))) =
    u₁.0 ∙ ap₂ (λ (x : ℕ) (y : Bytes). big_endian 2 x ++ y) (sym u₂.1)
    (u₂.0 ∙ ap (λ (y : Bytes). k ++ y) (u₃.0 ∙ ap (λ (y : Bytes). big_endian 8 t ++ y) (u₄.0 ∙ ap₂ (λ (x : ℕ) (y : Bytes). big_endian 2 x ++ y) (sym u₅.1) u₅.0))) in (
      whole ∙ simp append_assoc (ap₂ (λ (x : Version) (y : Bytes). big_endian 2 (length x.key) ++ (x.key ++ (big_endian 8 x.time ++ (big_endian 2 (length x.value) ++ (x.value ++ y))))) w j),
      ap storable (sym w) ∙ and_intro (and_intro (le-leb (length k) longest (omega (arith, u₁.1, u₂.1))) (le-leb (length b) longest (omega (arith, u₄.1, u₅.1)))) (le-leb t most_number (omega (arith, u₃.1))),
      ap octets (sym j) ∙ o₅,
    )

pub record-read : (s : Bytes) (v : Version) (r : Bytes) → octets s ≡ true → one_record s ≡ some (v, r) → (s ≡ record_bytes v ++ r) × (storable v ≡ true) × (octets r ≡ true)
unfolding one_record
record-read s v r o e =
    let (n, s₁, e₁, f₁) = after_read (number 2 s) _ v r e in
    let (k, s₂, e₂, f₂) = after_read (bytes n s₁) _ v r f₁ in
    let (t, s₃, e₃, f₃) = after_read (number 8 s₂) _ v r f₂ in
    let (m, s₄, e₄, f₄) = after_read (number 2 s₃) _ v r f₃ in
    let (b, s₅, e₅, f₅) = after_read (bytes m s₄) _ v r f₄ in
    record-found s v r n t m k b s₁ s₂ s₃ s₄ s₅ o e₁ e₂ e₃ e₄ e₅ f₅

-- ---- the records of an image
pub records-read : (n : ℕ) (s : Bytes) (vs : Run) (r : Bytes) → octets s ≡ true → records n s ≡ some (vs, r)
    → (s ≡ records_bytes vs ++ r) × (all storable vs ≡ true) × (length vs ≡ n)
unfolding records records_bytes all
records-read zero s vs r o e =
    let i = some-injective ([], s) (vs, r) e in
    let j : [] ≡ vs = ap (λ (x : Run × Bytes). x.0) i in
    let k : s ≡ r = ap (λ (x : Run × Bytes). x.1) i in
    (k ∙ ap (λ (l : Run). records_bytes l ++ r) j, ap (all storable) (sym j), ap (λ (l : Run). length l) (sym j))
records-read (suc n) s vs r o e =
    let (v, s₁, e₁, f₁) = after_read (one_record s) _ vs r e in
    let (ws, s₂, e₂, f₂) = after_read (records n s₁) _ vs r f₁ in
    let u = record-read s v s₁ o e₁ in
    more s vs r v ws s₁ s₂ n u (records-read n s₁ ws s₂ u.2 e₂) f₂
  where
    more : (s : Bytes) (vs : Run) (r : Bytes) (v : Version) (ws : Run) (s₁ s₂ : Bytes) (n : ℕ)
        → (s ≡ record_bytes v ++ s₁) × (storable v ≡ true) × (octets s₁ ≡ true)
        → (s₁ ≡ records_bytes ws ++ s₂) × (all storable ws ≡ true) × (length ws ≡ n)
        → ◌≡◌ {A = Option (Run × Bytes)} (some (v ∷ ws, s₂)) (some (vs, r))
        → (s ≡ records_bytes vs ++ r) × (all storable vs ≡ true) × (length vs ≡ suc n)
    more s vs r v ws s₁ s₂ n u w e =
        let i = some-injective (v ∷ ws, s₂) (vs, r) e in
        let j : v ∷ ws ≡ vs = ap (λ (x : Run × Bytes). x.0) i in
        let k : s₂ ≡ r = ap (λ (x : Run × Bytes). x.1) i in (
          u.0 ∙ ap (λ (y : Bytes). record_bytes v ++ y) w.0 ∙ sym (append_assoc (record_bytes v) (records_bytes ws) s₂) ∙ ap₂ (λ (l : Run) (y : Bytes). records_bytes l ++ y) j k,
          ap (all storable) (sym j) ∙ and_intro u.1 w.1,
          ap (λ (l : Run). length l) (sym j) ∙ ap suc w.2,
        )

-- ---- the verdict
broken-never : (r : Run) → broken ≡ good r → ⊥
broken-never r e = let z : ◌≡◌ {A = ℕ} 0 1 = cc in omega arith

foreign-never : (r : Run) → foreign ≡ good r → ⊥
foreign-never r e = let z : ◌≡◌ {A = ℕ} 0 1 = cc in omega arith

good-same : (q r : Run) → good q ≡ good r → q ≡ r
good-same q r e = cc

records-judged : (o : Option (Run × Bytes)) (r : Run) → judge_records o ≡ good r → (o ≡ some (r, [])) × (is_whole r ≡ true)
records-judged none r e = absurd (broken-never r e)
records-judged (some (q, [])) r e = here (is_whole q) refl e
  where
    here : (b : Bool) → is_whole q ≡ b → cond b (good q) broken ≡ good r → (◌≡◌ {A = Option (Run × Bytes)} (some (q, [])) (some (r, []))) × (is_whole r ≡ true)
    here true h k = (ap {B = Option (Run × Bytes)} (λ l. some (l, [])) (good-same q r k), ap is_whole (sym (good-same q r k)) ∙ h)
    here false h k = absurd (broken-never r k)
records-judged (some (q, b ∷ bs)) r e = absurd (broken-never r e)

version-judged : (o : Option (ℕ × Bytes)) (r : Run) → judge_version o ≡ good r → (t : Bytes) × (o ≡ some (1, t)) × (judge_records (body t) ≡ good r)
version-judged none r e = absurd (broken-never r e)
version-judged (some (n, t)) r e = here (eqb n 1) refl e
  where
    here : (b : Bool) → eqb n 1 ≡ b → cond b (judge_records (body t)) foreign ≡ good r
        → (u : Bytes) × (◌≡◌ {A = Option (ℕ × Bytes)} (some (n, t)) (some (1, u))) × (judge_records (body u) ≡ good r)
    here true h k = (t, ap {B = Option (ℕ × Bytes)} (λ m. some (m, t)) (eqb-true n 1 h), k)
    here false h k = absurd (foreign-never r k)

mark-judged : (o : Option (Bytes × Bytes)) (r : Run) → judge_mark o ≡ good r → (t : Bytes) × (o ≡ some (mark, t)) × (judge_version (number 2 t) ≡ good r)
mark-judged none r e = absurd (broken-never r e)
mark-judged (some (m, t)) r e = here (same_key m mark) refl e
  where
    here : (b : Bool) → same_key m mark ≡ b → cond b (judge_version (number 2 t)) broken ≡ good r
        → (u : Bytes) × (◌≡◌ {A = Option (Bytes × Bytes)} (some (m, t)) (some (mark, u))) × (judge_version (number 2 u) ≡ good r)
    here true h k = (t, ap {B = Option (Bytes × Bytes)} (λ x. some (x, t)) (key-eq m mark (is_same-eq (cmp_key m mark) h)), k)
    here false h k = absurd (broken-never r k)

-- a good image is the image of its run, which is whole and whose versions fit their fields
pub verdict-read : (s : Bytes) (r : Run) → octets s ≡ true → verdict s ≡ good r → (s ≡ image_of r) × (is_whole r ≡ true) × (all storable r ≡ true)
unfolding verdict image_of body
verdict-read s r o e =
    let (t, p, e₁) = mark-judged (bytes 3 s) r e in
    let (u, q, e₂) = version-judged (number 2 t) r e₁ in
    let w = records-judged (body u) r e₂ in
    let (n, x, f, g) = after_read (number 4 u) _ r [] w.0 in
    here t u n x p q f g w.1
  where
    here : (t u : Bytes) (n : ℕ) (x : Bytes) → bytes 3 s ≡ some (mark, t) → number 2 t ≡ some (1, u) → number 4 u ≡ some (n, x) → records n x ≡ some (r, [])
        → is_whole r ≡ true → (s ≡ mark ++ (big_endian 2 1 ++ (big_endian 4 (length r) ++ records_bytes r))) × (is_whole r ≡ true) × (all storable r ≡ true)
    here t u n x p q f g h =
        let a = bytes_read 3 s mark t p in
        let oₜ : octets t ≡ true = octets-right mark t (ap octets (sym a.0) ∙ o) in
        let b = number_read 2 t 1 u oₜ q in
        let oᵤ : octets u ≡ true = octets-right (big_endian 2 1) u (ap octets (sym b.0) ∙ oₜ) in
        let c = number_read 4 u n x oᵤ f in
        let oₓ : octets x ≡ true = octets-right (big_endian 4 n) x (ap octets (sym c.0) ∙ oᵤ) in
        let d = records-read n x r [] oₓ g in (
          a.0 ∙ ap (λ (y : Bytes). mark ++ y) (b.0 ∙ ap (λ (y : Bytes). big_endian 2 1 ++ y) (c.0 ∙ ap₂ (λ (m : ℕ) (y : Bytes). big_endian 4 m ++ y) (sym d.2) (d.0 ∙ append-nil (records_bytes r)))),
          h,
          d.1,
        )

-- ---- sizes
pub length-record : (v : Version) → length (record_bytes v) ≡ version_size v
unfolding record_bytes version_size
length-record v = simp (length-append, length-big_endian) (omega arith)

pub length-records : (r : Run) → length (records_bytes r) ≡ run_size r
unfolding records_bytes run_size total
length-records [] = refl
length-records (v ∷ vs) = length-append (record_bytes v) (records_bytes vs) ∙ ap₂ (λ (m n : ℕ). m + n) (length-record v) (length-records vs)

-- an image's length is its run's room in the run area
pub length-image : (r : Run) → length (image_of r) ≡ image_size r
unfolding image_of image_size
length-image r = simp (length-append, length-big_endian, length-records) (omega arith)
