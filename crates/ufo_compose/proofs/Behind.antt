-- What the reader says of a packet with one message more behind it: over the limit, or what it says of that message.
-- Assumes nothing.
use Prim.Native.Nat.{ℕ, ◌+◌, ◌≤◌, ◌<◌}
use mathlib.Core.List.{List, [], ◌∷◌, ◌++◌, map}
use mathlib.Core.Path.{◌≡◌, refl, ap, ◌∙◌}
use native.Mathlib.Omega.{arith}
use borrow.Author.Tests.{lt-leb, ne_eqb}
use lib.ListN.{length, length-append}
use Rattle.wire.specs.Checks.{Verdict, refused, taken, ◌into◌}
use Rattle.wire.specs.Datagram.{limit}
use Rattle.wire.specs.declared.refusal.Refusal.TheVariants.{Overlong}
use Rattle.blocks.specs.Blocks.{frame, frames, whole, upstream, Each, Full}
use Rattle.blocks.proofs.Frames.{length-frame, frames-one, frames-append, short-frames}
use Rattle.blocks.proofs.Cutting.{upstream-frames}
use Rattle.ufo_up.specs.Up.{Message, write_message, write_up, FitAll, read_message, read_each, read_cut, read_up}
use Rattle.ufo_up.proofs.UpPacket.{opened, each_append}
use Rattle.ufo_up.proofs.Exact.{read-each, full-messages}

full-more : (bs : List (List ℕ)) (w : List ℕ) → Each Full bs → 0 < length w → Each Full (bs ++ (w ∷ []))
full-more [] w f h = (h, tt)
full-more (b ∷ bs) w f h = (f.0, full-more bs w f.1 h)

module _ (p w : List ℕ) where
  length-behind : length (p ++ frame w) ≡ length p + (2 + length w)
  length-behind = rw (length-append, length-frame)

  pub read-over : limit < length p + (2 + length w) → read_up (p ++ frame w) ≡ refused Overlong
  unfolding read_up
  read-over h =
      rw (length-behind, ne_eqb (length p + (2 + length w)) 0 (λ z. omega arith), lt-leb (length p + (2 + length w)) limit h)

pub read_behind : (ms : List Message) (w : List ℕ) → FitAll ms → 0 < length w → length (write_up ms) + (2 + length w) ≤ limit
    → read_up (write_up ms ++ frame w) ≡ read_message w into (λ x. taken (ms ++ (x ∷ [])))
unfolding read_each
read_behind ms w f h l =
    let bs = map write_message ms ++ (w ∷ []) in
    let same : frames bs ≡ write_up ms ++ frame w = frames-append (map write_message ms) (w ∷ []) ∙ rw (frames-one w) in
    let n : length (frames bs) ≡ length (write_up ms) + (2 + length w) = ap length same ∙ length-behind (write_up ms) w in
    let some : 0 < length bs = rw length-append (omega arith) in
    let u : upstream (frames bs) ≡ whole bs = upstream-frames bs some (short-frames bs (omega arith))
    (full-more (map write_message ms) w (full-messages ms) h) in
    rw (← same) (opened (frames bs) (λ z. omega arith) (omega arith) ∙ ap read_cut u ∙ each_append (map write_message ms) (w ∷ [])
    ∙ rw (read-each ms f) (by (read_message w))) where
      by : (v : Verdict Message)
          → (v into (λ x. taken (x ∷ []))) into (λ os. taken (ms ++ os)) ≡ v into (λ x. taken (ms ++ (x ∷ [])))
      by (refused n) = refl
      by (taken x) = refl
