-- The count of S packets gives the number: once Login Accepted has named the first, messages are numbered one after the other, whatever
-- else comes between them; and the number is always below 2^64.
-- Assumes nothing.
use Prim.Native.Nat.{ℕ, zero, suc, ◌+◌, ◌-◌, ◌^◌, ◌≤◌, ◌<◌}
use mathlib.Core.Path.{◌≡◌, refl, ap}
use mathlib.Core.List.{List, [], ◌∷◌}
use native.Mathlib.Omega.{arith}
use lib.ListN.{length}
use borrow.Author.Tests.{eqb-true, eqb-false, leb-true, not-true}
use Rattle.wire.specs.Checks.{Passed, ◌is◌, taken}
use Rattle.wire.specs.declared.refusal.Refusal.{Refusal}
use Rattle.wire.proofs.Tests.{impossible}
use Rattle.soup.specs.Packet.{Packet}
use Rattle.soup.specs.Read.{read}
use Rattle.soup_pieces.specs.Machine.{Machine, Yield, packet, refusal, gives, Eaten, Role, begins, counted, neither, role_of}
use Rattle.soup_pieces.specs.Machine.{turn_checks, number_of, next_after, eat, fates, fed, yielded}
use Rattle.soup_pieces.proofs.Eats as eats
use Rattle.soup_pieces.proofs.Genuine.{judged}
use Rattle.soup_pieces.proofs.TakenLines.{begins-low}

-- the numbers of the messages among what is handed out
abbrev with_number : Role → ℕ → List ℕ → List ℕ
with_number (begins first) number ns = ns
with_number counted number ns = number ∷ ns
with_number neither number ns = ns

abbrev pub numbers : List Yield → List ℕ
numbers [] = []
numbers (packet d p number ∷ hs) = with_number (role_of p) number (numbers hs)
numbers (refusal d why ∷ hs) = numbers hs

-- so many numbers from n on
abbrev pub run : ℕ → ℕ → List ℕ
run n zero = []
run n (suc k) = n ∷ run (suc n) k

-- from one number to another these were given, in turn
pub record Counted (from to : ℕ) (ns : List ℕ) : Type 0 where
  pub in-turn : ns ≡ run from (length ns)
  pub reached : to ≡ from + length ns

-- one packet in front
one_more : (next to : ℕ) (ns : List ℕ) (role : Role) → 1 ≤ next → Passed (turn_checks next role)
    → (1 ≤ next_after next role → Counted (next_after next role) to ns) → Counted next to (with_number role (number_of next role) ns)
one_more next to ns (begins number) h p c = let z : next ≡ 0 = eqb-true next 0 p.0 in absurd (omega arith)
one_more next to ns counted h p c =
    let r = c (omega arith) in
    record { in-turn = ap (λ (l : List ℕ). next ∷ l) r.in-turn; reached = omega (arith, r.reached) }
one_more next to ns neither h p c = c h

pub counted-on : (s : Machine) (bs : List ℕ) → 1 ≤ s.next → Counted s.next (fed s bs).next (numbers (yielded (fates s bs)))
unfolding fates fed yielded
counted-on s [] h = record { in-turn = refl; reached = omega arith }
counted-on s (b ∷ bs) h = by (λ t. counted-on t bs) (eat s b) (eats.eats s b) where
  by : ((t : Machine) → 1 ≤ t.next → Counted t.next (fed t bs).next (numbers (yielded (fates t bs))))
      → (x : Eaten) → eats.Eats s b x
      → Counted s.next (fed x.machine bs).next (numbers (yielded (x.fate ∷ fates x.machine bs)))
  by on x (eats.dropped _) = on x.machine h
  by on x (eats.kept _ _ _) = on x.machine h
  by on x (eats.fit _ _ p j) = one_more s.next _ _ (role_of p) h (judged s.next (eats.gathered s b) p j).1 (on x.machine)
  by on x (eats.unfit _ _ why j) = on x.machine h
  by on x (eats.overlong _ _ l) = on x.machine h

-- before Login Accepted no message is handed out
pub none_before : (s : Machine) (b : ℕ) (d : List ℕ) (p : Packet) (number : ℕ) → s.next ≡ 0 → (eat s b).fate ≡ gives (packet d p number)
    → role_of p ≡ counted → ⊥
none_before s b d p number z e r = by (eat s b) (eats.eats s b) e where
  by : (x : Eaten) → eats.Eats s b x → x.fate ≡ gives (packet d p number) → ⊥
  by x (eats.dropped _) e = impossible cc
  by x (eats.kept _ _ _) e = impossible cc
  by x (eats.fit _ _ q j) e =
      let same : q ≡ p = cc in
      let t = rw (same, r) at (judged s.next (eats.gathered s b) q j).1 in
      eqb-false s.next 0 (not-true (s.next is 0) t.0) z
  by x (eats.unfit _ _ why j) e = impossible cc
  by x (eats.overlong _ _ l) e = impossible cc

-- a refused packet is used up, and leaves the number alone
pub refusal-leaves : (s : Machine) (b : ℕ) (d : List ℕ) (why : Refusal) → (eat s b).fate ≡ gives (refusal d why)
    → ((eat s b).machine.kept ≡ []) × ((eat s b).machine.next ≡ s.next)
refusal-leaves s b d why e = by (eat s b) (eats.eats s b) e where
  by : (x : Eaten) → eats.Eats s b x → x.fate ≡ gives (refusal d why) → (x.machine.kept ≡ []) × (x.machine.next ≡ s.next)
  by x (eats.dropped _) e = impossible cc
  by x (eats.kept _ _ _) e = impossible cc
  by x (eats.fit _ _ q j) e = impossible cc
  by x (eats.unfit _ _ n j) e = (refl, refl)
  by x (eats.overlong _ _ l) e = (refl, refl)

-- ---- the number of the next message is below 2^64

low-after : (next : ℕ) (d : List ℕ) (p : Packet) → next < 2 ^ 64 → read d ≡ taken p → Passed (turn_checks next (role_of p))
    → next_after next (role_of p) < 2 ^ 64
low-after next d p h e t = by (role_of p) refl t where
  by : (role : Role) → role_of p ≡ role → Passed (turn_checks next role) → next_after next role < 2 ^ 64
  by (begins number) r t = begins-low d p e number r
  by counted r t = let k = leb-true next (2 ^ 64 - 2) t.1.0 in omega arith
  by neither r t = h

pub number_fits : (s : Machine) (bs : List ℕ) → s.next < 2 ^ 64 → (fed s bs).next < 2 ^ 64
unfolding fed
number_fits s [] h = h
number_fits s (b ∷ bs) h = number_fits (eat s b).machine bs (by (eat s b) (eats.eats s b)) where
  by : (x : Eaten) → eats.Eats s b x → x.machine.next < 2 ^ 64
  by x (eats.dropped _) = h
  by x (eats.kept _ _ _) = h
  by x (eats.fit _ _ p j) =
      let q = judged s.next (eats.gathered s b) p j in
      low-after s.next (eats.gathered s b) p h q.0 q.1
  by x (eats.unfit _ _ why j) = h
  by x (eats.overlong _ _ l) = h
