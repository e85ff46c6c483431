-- Values side by side, over any list of fields: how long they are, read as they were laid out, laid out as they were read.
-- Assumes nothing.
use Prim.Native.Nat.{ℕ, ◌≤◌}
use mathlib.Core.Path.{◌≡◌, refl}
use mathlib.Core.List.{List, [], ◌∷◌, ◌++◌, append_assoc}
use native.Mathlib.Nat.{zero-add}
use native.Mathlib.Omega.{arith}
use lib.ListN.{length, drop, length-append, length-drop}
use lib.Seq.{drop-drop, drop_at}
use Rattle.wire.specs.Fields.{bytes_of, Bytes}
use Rattle.wire.proofs.Width.{be-lt, bytes_drop, length-bytes_of, be-bytes_of, written-again}
use Rattle.memx_tcp.specs.Layout.{Field, width, size}
use Rattle.memx_tcp.specs.Packet.{laid, Sized}
use Rattle.memx_tcp.specs.Read.{values_in}

pub length-laid : (fs : List Field) (vs : List ℕ) → Sized fs vs → length (laid fs vs) ≡ size fs
unfolding laid size Sized
length-laid [] [] h = refl
length-laid [] (v ∷ vs) h = absurd h
length-laid (f ∷ fs) [] h = absurd h
length-laid (f ∷ fs) (v ∷ vs) h =
    rw (length-append (bytes_of (width f) v) (laid fs vs), length-bytes_of (width f) v, length-laid fs vs h.1)

-- what follows the values
pub after-laid : (fs : List Field) (vs t : List ℕ) → Sized fs vs → drop (size fs) (laid fs vs ++ t) ≡ t
after-laid fs vs t h = drop_at (laid fs vs) t (size fs) (length-laid fs vs h)

pub values-laid : (fs : List Field) (vs t : List ℕ) → Sized fs vs → values_in fs (laid fs vs ++ t) ≡ vs
unfolding laid Sized values_in
values-laid [] [] t h = refl
values-laid [] (v ∷ vs) t h = absurd h
values-laid (f ∷ fs) [] t h = absurd h
values-laid (f ∷ fs) (v ∷ vs) t h =
    let k = width f in
    rw (
      append_assoc (bytes_of k v) (laid fs vs) t,
      be-bytes_of k v (laid fs vs ++ t) h.0,
      drop_at (bytes_of k v) (laid fs vs ++ t) k (length-bytes_of k v),
      values-laid fs vs t h.1,
    )

pub sized-values : (fs : List Field) (s : List ℕ) → Bytes s → Sized fs (values_in fs s)
unfolding Sized values_in
sized-values [] s b = tt
sized-values (f ∷ fs) s b = (be-lt (width f) s b, sized-values fs (drop (width f) s) (bytes_drop (width f) s b))

pub laid-values : (fs : List Field) (s : List ℕ) → Bytes s → size fs ≤ length s → laid fs (values_in fs s) ++ drop (size fs) s ≡ s
unfolding laid size values_in
laid-values [] s b h = refl
laid-values (f ∷ fs) s b h =
    let k = width f in
    let rest = drop k s in
    let again = laid-values fs rest (bytes_drop k s b) (rw length-drop (omega arith)) in
    rw (append_assoc, ← drop-drop (size fs) k s, again) (rw zero-add at (written-again k 0 s b (omega arith)))
