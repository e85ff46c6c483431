-- Packets that are written one behind the other come out one by one, as they are and in order, if each has its turn.
-- Assumes nothing.
use Prim.Native.Nat.{ℕ, suc, ◌+◌, ◌-◌, ◌≤◌}
use mathlib.Core.Path.{◌≡◌, refl, sym, ap, ◌∙◌}
use mathlib.Core.List.{List, [], ◌∷◌, ◌++◌}
use mathlib.Core.Bool.{false}
use native.Mathlib.Omega.{arith}
use lib.ListN.{length, take}
use lib.Seq.{take-suc, take_all, length-take-le}
use Rattle.wire.specs.Checks.{taken, Passed}
use Rattle.wire.proofs.Checks.{passed-all}
use Rattle.soup.specs.Packet.{Packet, write, Fit}
use Rattle.soup.specs.Read.{front}
use Rattle.soup.proofs.Exact.{written-is-read}
use Rattle.soup_pieces.specs.Machine.{Yield, packet, role_of, turn_checks, number_of, next_after, judge, empty, first, fates, fed}
use Rattle.soup_pieces.specs.Machine.{yielded}
use Rattle.soup_pieces.specs.Closing.{Line}
use Rattle.soup_pieces.proofs.Closes.{not-empty}
use Rattle.soup_pieces.proofs.Cutting.{yielded-cut}
use Rattle.soup_pieces.proofs.Reaching.{first-given}
use Rattle.soup_pieces.proofs.Stretches.{closes}
use Rattle.soup_pieces.proofs.TakenLines.{taken-line}

-- a line is what stands before its linefeed, and the linefeed
split-line : (d : List ℕ) → Line d → front d ++ 10 ∷ [] ≡ d
split-line d l =
    let n = not-empty d l in
    let k = length d - 1 in
    ap (λ (b : ℕ). take k d ++ b ∷ []) (sym l.ends) ∙ sym (take-suc d k 0 (omega arith)) ∙ take_all (suc k) d (omega arith)

module _ (next : ℕ) (p : Packet) (f : Fit p) (t : Passed (turn_checks next (role_of p))) where
  judged : judge next (write p) ≡ taken p
  unfolding judge
  judged = rw (written-is-read p f) (passed-all (turn_checks next (role_of p)) (taken p) t)

  pub comes-out : (yielded (fates (empty false next) (write p)) ≡ packet (write p) p (number_of next (role_of p)) ∷ [])
      × (fed (empty false next) (write p) ≡ empty false (next_after next (role_of p)))
  unfolding fates fed yielded
  comes-out =
      let d = write p in
      let l = taken-line d p (written-is-read p f) in
      let e = split-line d l in
      let s = empty false next in
      let short : 0 + length (front d) ≤ 4097 = omega (arith, length-take-le (length d - 1) d (omega arith), l.short) in
      first-given s d _ _ [] (ap (first s) (sym e) ∙ closes next [] (front d) [] l.whole short ∙ rw (e, judged))

-- ---- one behind the other

-- lawful packets, each of which has its turn
abbrev pub InTurn : ℕ → List Packet → Type 0
InTurn next [] = Unit
InTurn next (p ∷ ps) = Fit p × Passed (turn_checks next (role_of p)) × InTurn (next_after next (role_of p)) ps

abbrev pub stream : List Packet → List ℕ
stream [] = []
stream (p ∷ ps) = write p ++ stream ps

-- with their bytes and numbers
abbrev pub numbered : ℕ → List Packet → List Yield
numbered next [] = []
numbered next (p ∷ ps) = packet (write p) p (number_of next (role_of p)) ∷ numbered (next_after next (role_of p)) ps

pub all-come-out : (next : ℕ) (ps : List Packet) → InTurn next ps → yielded (fates (empty false next) (stream ps)) ≡ numbered next ps
unfolding fates yielded
all-come-out next [] t = refl
all-come-out next (p ∷ ps) t =
    let c = comes-out next p t.0 t.1 in
    let on = all-come-out (next_after next (role_of p)) ps t.2 in
    rw (yielded-cut (empty false next) (write p) (stream ps), c.0, c.1)
    (ap (λ (ys : List Yield). packet (write p) p (number_of next (role_of p)) ∷ ys) on)
