-- A request is checked in the scope's order: 10, 6, 9, and then it is answered.
-- Assumes nothing.
use Prim.Native.Nat.{ℕ}
use mathlib.Core.Path.{◌≡◌, refl}
use mathlib.Core.Bool.{true}
use mathlib.Core.List.{List, [], ◌∷◌}
use Rattle.wire.specs.Checks.{taken, checked, in_order}
use Rattle.ufo.specs.Down.{write}
use Rattle.lent_log.specs.Log.{messages_in}
use Rattle.lent_log.specs.declared.Log.{Log}
use Rattle.lend.specs.Answer.{answer_to, answerable, answer_reply}

pub answering-in-order : (l : Log) (s : List ℕ) (f c room : ℕ)
    → (answer_reply l s f c room ≡ checked (answerable l s f c room) (taken (write (answer_to l.ended (messages_in l s) f c))))
    × (in_order (10 ∷ 6 ∷ 9 ∷ []) (answerable l s f c room) ≡ true)
unfolding answer_reply
answering-in-order l s f c room = (refl, refl)
