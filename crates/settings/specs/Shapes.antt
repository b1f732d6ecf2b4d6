-- Where the settings put each part of a state, as one value.
-- Assumes nothing.
use Rattle.paper.specs.Settings.{Settings}
use Rattle.layout.specs.Offsets.{start_history, start_active, start_area, start_places, stride}
use Rattle.settings.specs.declared.Shape.{Shape}

unfoldable pub shape_of : Settings → Shape
shape_of st =
    record {
      serializable = st.serializable;
      count = st.transactions;
      own = st.overlay_bytes;
      reads = st.read_hashes;
      writes = st.write_hashes;
      entries = st.history_entries;
      hashes = st.history_hashes;
      history = start_history st;
      active = start_active st;
      area = start_area st;
      places = start_places st;
      stride = stride st;
    }
