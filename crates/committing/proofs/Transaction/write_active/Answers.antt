-- The records go behind their number of bytes, and then that number.
use mathlib.Core.Path.{ap}
use Prim.Native.Nat.{ℕ, ◌+◌, ◌-◌}
use Rattle.committing.proofs.Writing.{active-own, active-ready, active-written}
use Rattle.committing.proofs.Transaction.write_active.Goals as goal

pub new-own-requires : goal.new-own-requires
new-own-requires c = active-own c.args.state.now c.args.self.shape c.args.self.place c.args.number c.requires.0 c.requires.1 _ _ c.split_at_mut-front.ensures.front c.split_at_mut-front.ensures.back _ _ (ap (λ (m : ℕ). m - (c.args.self.shape.active + 8)) c.end_of.ensures) (ap (λ (m : ℕ). m - (c.args.self.place + 32)) c.end_of-2.ensures)

pub absorb-size-requires : goal.absorb-size-requires
absorb-size-requires c = active-ready c.args.state.now c.args.self.shape c.args.self.place c.args.number c.requires.0 c.requires.1 _ _ c.split_at_mut-front.ensures.front c.split_at_mut-front.ensures.back _ _ (ap (λ (m : ℕ). m - (c.args.self.shape.active + 8)) c.end_of.ensures) (ap (λ (m : ℕ). m - (c.args.self.place + 32)) c.end_of-2.ensures) _ c.new-own.ensures

pub returns : goal.returns
returns c =
    active-written c.args.state.now c.args.self.shape c.args.self.place c.args.number c.requires.0 c.requires.1 _ _ c.split_at_mut-front.ensures.front c.split_at_mut-front.ensures.back _ _ (ap (λ (m : ℕ). m - (c.args.self.shape.active + 8)) c.end_of.ensures) (ap (λ (m : ℕ). m - (c.args.self.place + 32)) c.end_of-2.ensures) _ c.new-own.ensures _ c.absorb-size.new.room _ c.absorb-size.ensures.0 c.absorb-size.ensures.1 c.put_number.ensures
