-- The deliveries are the log's beginning, message by message and byte by byte; and what is held is the log's.
-- Assumes nothing.
use Prim.Native.Nat.{ℕ, ◌-◌, ◌≤◌, ◌<◌}
use mathlib.Core.Path.{◌≡◌, sym, ap, ◌∙◌}
use mathlib.Core.List.{List, [], ◌++◌, append_assoc}
use native.Mathlib.Omega.{arith}
use lib.ListN.{length, take, drop, take-append-drop}
use lib.Seq.{length-take-le, take-append_seam, get_or-take}
use Rattle.blocks.specs.Blocks.{frames}
use Rattle.wire.proofs.Width.{bytes_take}
use Rattle.blocks.proofs.Cutting.{frames-cut}
use Rattle.lent_log.specs.Log.{messages_in}
use Rattle.lent_log.specs.declared.Log.{Log}
use Rattle.lent_log.proofs.Hanging.{hanging}
use Rattle.blocks.proofs.Places.{frames-split}
use Rattle.session.specs.Session.{State, logged}
use Rattle.session.specs.Promise.{Faithful, Delivered}
use Rattle.session.proofs.Logs.{Hung}
use Rattle.session.proofs.Genuine.{held-known}
use Rattle.session.proofs.Invariant.{Inv}
use Rattle.session.proofs.EveryStep.{hung-record}

-- the lent bytes begin with the log's blocks, and these with the blocks of its first messages
log-bytes : (l : Log) (s : List ℕ) → Hung l s → frames (messages_in l s) ≡ take l.used s
log-bytes l s h =
    (frames-cut l.count (take l.used s) (messages_in l s) (bytes_take l.used s h.bytes) (hanging l s h.whole).cuts).0

first-bytes : (l : Log) (s : List ℕ) → Hung l s → (n : ℕ) (got : List (List ℕ)) → got ≡ take n (messages_in l s)
    → frames got ≡ take (length (frames got)) s
first-bytes l s h n got e =
    let ms : List (List ℕ) = messages_in l s in
    let more : List ℕ = frames (drop n ms) ++ drop l.used s in
    let all : s ≡ frames got ++ more =
    sym (take-append-drop l.used s)
    ∙ ap (λ (x : List ℕ). x ++ drop l.used s)
    (sym (log-bytes l s h) ∙ frames-split n ms ∙ ap (λ (x : List (List ℕ)). frames x ++ frames (drop n ms)) (sym e))
    ∙ append_assoc (frames got) (frames (drop n ms)) (drop l.used s) in
    sym (ap (take (length (frames got))) all ∙ take-append_seam (frames got) more)

module _ (s : State) (i : Inv s) where
  pub length-deliveries : length s.deliveries ≡ s.kept.next.0 - 1
  length-deliveries =
      let h = i.hold in
      ap length h.begun ∙ length-take-le (s.kept.next.0 - 1) (logged s) (omega (arith, h.near, h.known))

  pub faithful : Faithful s
  faithful =
      let h = i.hold in
      record {
        hung = i.hung.whole;
        kept = hung-record s i;
        area = h.sound;
        begun = h.begun;
        inside = omega (arith, h.near, h.known);
        bytes = first-bytes s.log s.lent i.hung (s.kept.next.0 - 1) s.deliveries h.begun;
        held = λ n e. ((held-known (logged s) s.log.ended s.kept s.area s.deliveries h n e).1, h.sent n e);
      }

  pub delivered : (n : ℕ) → 1 ≤ n → n < s.kept.next.0 → Delivered s n
  delivered n a b =
      let l = length-deliveries in
      record {
        some = a;
        within = omega arith;
        same = rw i.hold.begun (get_or-take (s.kept.next.0 - 1) (logged s) (n - 1) [] (omega arith));
      }
