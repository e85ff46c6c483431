-- Whatever is handed out is the reader's word and the count's: a packet is what the reader says of those bytes, in its turn and under its
-- number; a refusal has its reason in those bytes and in the count, and `Why` has all five.
-- Assumes nothing.
use Prim.Native.Nat.{ℕ, ◌-◌, ◌^◌, ◌≤◌}
use mathlib.Core.Path.{◌≡◌, refl, sym, ◌∙◌}
use mathlib.Core.List.{List, [], ◌∷◌, ◌++◌}
use native.Mathlib.Nat.{pos_of_ne-zero}
use native.Mathlib.Omega.{arith}
use lib.Dec.{eqb, leb}
use lib.ListN.{length, length-append}
use lib.Seq.{get_or_at}
use borrow.Author.Tests.{eqb-true, eqb-false, leb-false}
use Rattle.wire.specs.Checks.{Verdict, refused, taken, checked, Passed}
use Rattle.wire.specs.declared.refusal.Refusal.{Refusal}
use Rattle.wire.specs.declared.refusal.Refusal.TheVariants.{Overlong, Bound, NotForRecord}
use Rattle.wire.proofs.Checks.{went, all-passed, taken-same}
use Rattle.wire.proofs.Tests.{by-test, impossible}
use Rattle.soup.specs.Packet.{Packet, debug, accept, reject, sequenced, server_heartbeat, end_of_session, login, unsequenced}
use Rattle.soup.specs.Packet.{client_heartbeat}
use Rattle.soup.specs.Packet.{logout, line_limit}
use Rattle.soup.specs.Read.{last, read}
use Rattle.soup_pieces.specs.Machine.{Machine, Yield, packet, refusal, Eaten, role_of, turn_checks, number_of, next_after, judge}
use Rattle.soup_pieces.specs.Machine.{eat, fates, yielded, given, first}
use Rattle.soup_pieces.proofs.Eats as eats
use Rattle.soup_pieces.proofs.Reaching.{As-far, goes}

-- of a packet that is taken: the reader takes it, and it is its turn
pub judged : (next : ℕ) (d : List ℕ) (p : Packet) → judge next d ≡ taken p → (read d ≡ taken p) × Passed (turn_checks next (role_of p))
unfolding judge
judged next d p e =
    let w = went (read d) (λ q. checked (turn_checks next (role_of q)) (taken q)) p e in
    let r = all-passed (turn_checks next (role_of w.by)) (taken w.by) p w.gave in
    let q = taken-same w.by p r.1 in
    (rw (w.was, q), rw q at r.0)

-- ---- why a packet is refused, where the next S would have the number `next`, 0 before Login Accepted

pub data Why (next : ℕ) (d : List ℕ) : (why : Refusal) → Type 0 where
  -- the reader refuses these very bytes under this number
  unread : (why : Refusal) → read d ≡ refused why → Why next d why
  -- an S, and there was no Login Accepted
  early : (message : List ℕ) → read d ≡ taken (sequenced message) → next ≡ 0 → Why next d NotForRecord
  -- a second Login Accepted
  second : (session : List ℕ) (number : ℕ) → read d ≡ taken (accept session number) → 1 ≤ next → Why next d NotForRecord
  -- an S whose number would be 2^64-1, and not more: `Counting` shows that it is below 2^64
  past-last : (message : List ℕ) → read d ≡ taken (sequenced message) → 2 ^ 64 - 1 ≤ next → Why next d Bound
  -- 4,098 bytes, and the last is no linefeed; nor is any before it: `Overlong`
  overlong : length d ≡ line_limit → (last d ≡ 10 → ⊥) → Why next d Overlong

module _ (next : ℕ) (d : List ℕ) (why : Refusal) where
  -- a packet that the reader takes, by its checks
  out-of-turn : (p : Packet) → read d ≡ taken p → checked (turn_checks next (role_of p)) (taken p) ≡ refused why → Why next d why
  out-of-turn (sequenced message) q e =
      by-test (eqb next 0)
      (λ t. let n : NotForRecord ≡ why = cc (rw t at e) in rw (← n) (early message q (eqb-true next 0 t)))
      (λ t. by-test (leb next (2 ^ 64 - 2))
      (λ u. impossible (cc (rw (t, u) at e)))
      (λ u. let n : Bound ≡ why = cc (rw (t, u) at e) in
      let m = leb-false next (2 ^ 64 - 2) u in
      rw (← n) (past-last message q (omega arith))))
  out-of-turn (accept session number) q e =
      by-test (eqb next 0)
      (λ t. impossible (cc (rw t at e)))
      (λ t. let n : NotForRecord ≡ why = cc (rw t at e) in
      rw (← n) (second session number q (pos_of_ne-zero (eqb-false next 0 t))))
  out-of-turn (debug text) q e = impossible cc
  out-of-turn (reject reason) q e = impossible cc
  out-of-turn server_heartbeat q e = impossible cc
  out-of-turn end_of_session q e = impossible cc
  out-of-turn (login user password session number) q e = impossible cc
  out-of-turn (unsequenced message) q e = impossible cc
  out-of-turn client_heartbeat q e = impossible cc
  out-of-turn logout q e = impossible cc

  refused_why : judge next d ≡ refused why → Why next d why
  unfolding judge
  refused_why e = by (read d) refl where
    by : (v : Verdict Packet) → read d ≡ v → Why next d why
    by (refused n) q = let m : n ≡ why = cc (rw q at e) in unread why (rw (q, m))
    by (taken p) q = out-of-turn p q (rw q at e)

-- ---- all that is handed out

abbrev pub Genuine : (next : ℕ) → Yield → Type 0
Genuine next (packet d p number) = (read d ≡ taken p) × Passed (turn_checks next (role_of p)) × (number ≡ number_of next (role_of p))
Genuine next (refusal d why) = Why next d why

-- the number of the next S behind it
abbrev pub next_behind : (next : ℕ) → Yield → ℕ
next_behind next (packet d p number) = next_after next (role_of p)
next_behind next (refusal d why) = next

abbrev pub AllGenuine : (next : ℕ) → List Yield → Type 0
AllGenuine next [] = Unit
AllGenuine next (y ∷ ys) = Genuine next y × AllGenuine (next_behind next y) ys

last-is : (k : List ℕ) (b : ℕ) → last (k ++ b ∷ []) ≡ b
last-is k b =
    let n : length (k ++ b ∷ []) - 1 ≡ length k = simp length-append (omega arith) in
    rw n (get_or_at k b [] 0 (length k) refl)

pub all-genuine : (s : Machine) (bs : List ℕ) → AllGenuine s.next (yielded (fates s bs))
unfolding fates yielded
all-genuine s [] = tt
all-genuine s (b ∷ bs) = by (eat s b) (eats.eats s b) (all-genuine (eat s b).machine bs) where
  by : (x : Eaten) → eats.Eats s b x → AllGenuine x.machine.next (yielded (fates x.machine bs))
      → AllGenuine s.next (yielded (x.fate ∷ fates x.machine bs))
  by x (eats.dropped _) g = g
  by x (eats.kept _ _ _) g = g
  by x (eats.fit _ _ p j) g = let q = judged s.next (eats.gathered s b) p j in ((q.0, q.1, refl), g)
  by x (eats.unfit _ _ why j) g = (refused_why s.next (eats.gathered s b) why j, g)
  by x (eats.overlong _ n l) g = (overlong l (λ e. n (sym (last-is s.kept b) ∙ e)), g)

-- so it is with what a call hands out
pub first-genuine : (s : Machine) (bs : List ℕ) (y : Yield) (t : Machine) (left : List ℕ) → first s bs ≡ given y t left
    → Genuine s.next y
first-genuine s bs y t left e =
    let g : As-far s bs y t left = rw e at (goes s bs) in
    let all : AllGenuine s.next (y ∷ []) = rw g.gave at (all-genuine s g.eaten) in
    all.0
