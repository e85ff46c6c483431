-- The reader takes exactly the lawful packets, with the same fields, and with the same bytes but for noughts in front of a number.
-- Assumes nothing.
use Prim.Native.Nat.{ℕ, suc, ◌+◌, ◌-◌, ◌^◌, ◌≤◌, ◌<◌}
use mathlib.Core.Path.{◌≡◌, refl, sym, ap, ◌∙◌}
use mathlib.Core.Logic.{⊎_elim}
use mathlib.Core.List.{List, [], ◌∷◌, ◌++◌}
use mathlib.Core.Bool.{true, false, not}
use native.Mathlib.Omega.{arith}
use lib.Dec.{eqb, leb}
use lib.ListN.{length, get_or, drop, length-append, length-drop, length-take}
use lib.Seq.{drop-cons}
use borrow.Author.Tests.{eq-eqb, ne_eqb, le-leb, eqb-true, eqb-false, leb-true, not-true}
use Rattle.wire.specs.Fields.{Bytes}
use Rattle.wire.specs.Checks.{Verdict, taken, checked, Passed}
use Rattle.wire.specs.declared.refusal.Refusal.TheVariants.{UnknownType}
use Rattle.text.specs.Text.{blank}
use Rattle.wire.proofs.Checks.{all-passed, passed-all, not-both, taken-same}
use Rattle.wire.proofs.Tests.{one-of-fact}
use Rattle.wire.proofs.Width.{bytes_drop, bytes_take, length_part}
use Rattle.decimal.specs.Decimal.{well_formed, value_of, written, leading_zero}
use Rattle.soup.specs.Packet.{Packet, debug, accept, reject, sequenced, server_heartbeat, end_of_session, login, unsequenced}
use Rattle.soup.specs.Packet.{client_heartbeat, logout, line_limit, line, write, Payload, PaddedRight, PaddedLeft, Fit}
use Rattle.soup.specs.Read.{last, field, payload, unbroken, opening, line_checks, sized_checks, reject_checks, reject_of, accept_of}
use Rattle.soup.specs.Read.{login_of, read_reject, read_accept, read_login, by_type, read}
use Rattle.soup.specs.Spelling.{spelt_anew, spelling, padded}
use Rattle.decimal.proofs.Written.{read-written, written_read, length-written}
use Rattle.soup.proofs.Linefeed.{unbroken-none, none-unbroken, more, append-unbroken, right-unbroken, left-unbroken}
use Rattle.soup.proofs.Linefeed.{formed-unbroken}
use Rattle.soup.proofs.Lines.{length-line, last_line, front-line, payload-line, line-whole, two_bytes, payload-unbroken, fields_join}
use Rattle.soup.proofs.Lines.{accept-found, login-found}
use Rattle.soup.proofs.Types.{every-type, unknown-is-3}
use Rattle.soup.proofs.Fields.{accept-taken, login-taken}
use Rattle.soup.proofs.SpeltAnew.{anew, unspelt}

-- ---- a lawful packet passes every check

-- a line of a lawful size and without a linefeed inside, whatever the verdict on what it holds
module _ (kind : ℕ) (s : List ℕ) (k : kind ≡ 10 → ⊥) (u : unbroken s ≡ true) where
  opens : length s ≤ 4096 → Passed (opening (line kind s))
  opens h =
      let l = length-line kind s in
      (le-leb 1 (length (line kind s)) (omega arith), (le-leb (length (line kind s)) line_limit (omega arith), tt))

  ends : Passed (line_checks (line kind s))
  ends = (eq-eqb (last (line kind s)) 10 (last_line kind s), (rw front-line (more kind s k u), tt))

  goes_on : (v : Verdict Packet) → length s ≤ 4096 → checked (opening (line kind s)) (checked (line_checks (line kind s)) v) ≡ v
  goes_on v h = passed-all (opening (line kind s)) _ (opens h) ∙ passed-all (line_checks (line kind s)) v ends

  goes-on-sized : (n : ℕ) (v : Verdict Packet) → length s + 2 ≡ n → length s ≤ 4096
      → checked (opening (line kind s)) (checked (sized_checks n (line kind s)) v) ≡ v
  goes-on-sized n v l h =
      passed-all (opening (line kind s)) _ (opens h)
      ∙ passed-all (sized_checks n (line kind s)) v (eq-eqb (length (line kind s)) n (length-line kind s ∙ l), ends)

-- a payload, under any of the three types
payload-taken : (kind : ℕ) (s : List ℕ) (packet : List ℕ → Packet) → (kind ≡ 10 → ⊥) → Payload s
    → checked (opening (line kind s)) (checked (line_checks (line kind s)) (taken (packet (payload (line kind s))))) ≡ taken (packet s)
payload-taken kind s packet k p =
    goes_on kind s k (none-unbroken s p.2) (taken (packet (payload (line kind s)))) p.1
    ∙ ap (λ (t : List ℕ). taken (packet t)) (payload-line kind s)

accepts : (session : List ℕ) (number : ℕ) → Fit (accept session number) → accept_of session (written number) ≡ taken (accept session number)
unfolding Fit accept_of
accepts session number f =
    let r = read-written number f.3 in
    rw (f.0.1, r.formed, f.1, r.filled, r.value, ne_eqb number 0 (λ e. omega arith), le-leb number (2 ^ 64 - 1) (omega arith))

logs-in : (user password session : List ℕ) (number : ℕ) → Fit (login user password session number)
    → login_of user password session (written number) ≡ taken (login user password session number)
unfolding Fit login_of
logs-in user password session number f =
    let r = read-written number f.3 in
    rw (f.0.1, f.1.1, f.2.1, r.formed, f.4, r.filled, r.value, le-leb number (2 ^ 64 - 1) (omega arith))

-- a login's line, however its number is spelt: its fields decide
pub login-decides : (user password session number : List ℕ) → PaddedRight 6 user → PaddedRight 10 password → PaddedLeft 10 session
    → length number ≡ 20 → well_formed number ≡ true
    → read (line 76 (user ++ password ++ session ++ number)) ≡ login_of user password session number
unfolding read
login-decides user password session number a b c n f =
    let s = user ++ password ++ session ++ number in
    let d = line 76 s in
    let l : length s ≡ 46 = simp length-append (omega arith) in
    let names = append-unbroken user password (right-unbroken user a.1) (right-unbroken password b.1) in
    let texts = append-unbroken (user ++ password) session names (left-unbroken session c.1) in
    let u = append-unbroken (user ++ password ++ session) number texts (formed-unbroken number f) in
    let v = login_of (field 1 6 d) (field 7 10 d) (field 17 10 d) (field 27 20 d) in
    let found = login-found user password session number a.0 b.0 c.0 n in
    goes-on-sized 76 s (eqb-false 76 10 refl) u 48 v (omega arith) (omega arith) ∙ rw (found.0, found.1, found.2, found.3)

-- Nothing lawful is refused: a lawful packet, written, is read as that packet, with its fields.
pub written-is-read : (p : Packet) → Fit p → read (write p) ≡ taken p
unfolding read Fit unbroken reject_of
written-is-read (debug text) f = payload-taken 43 text debug (eqb-false 43 10 refl) f
written-is-read (accept session number) f =
    let w = written number in
    let s = session ++ w in
    let d = line 65 s in
    let l : length s ≡ 30 = simp (length-append, length-written) (omega arith) in
    let number-unbroken = formed-unbroken w (read-written number f.3).formed in
    let u = append-unbroken session w (left-unbroken session f.0.1) number-unbroken in
    let found = accept-found session w f.0.0 (length-written number) in
    goes-on-sized 65 s (eqb-false 65 10 refl) u 32 (accept_of (field 1 10 d) (field 11 20 d)) (omega arith) (omega arith)
    ∙ rw (found.0, found.1) (accepts session number f)
written-is-read (reject reason) f = ⊎_elim (λ e. rw e) (λ e. rw e) f
written-is-read (sequenced message) f = payload-taken 83 message sequenced (eqb-false 83 10 refl) f
written-is-read server_heartbeat f = refl
written-is-read end_of_session f = refl
written-is-read (login user password session number) f =
    let formed = (read-written number f.3).formed in
    login-decides user password session (written number) f.0 f.1 f.2 (length-written number) formed
    ∙ logs-in user password session number f
written-is-read (unsequenced message) f = payload-taken 85 message unsequenced (eqb-false 85 10 refl) f
written-is-read client_heartbeat f = refl
written-is-read logout f = refl

-- ---- what is taken is lawful

-- what the checks of a line tell
module _ (d : List ℕ) (h : 2 ≤ length d) (p : Passed (line_checks d)) where
  ending : last d ≡ 10
  ending = eqb-true (last d) 10 p.0

  whole : line (get_or d 0 0) (payload d) ≡ d
  whole = line-whole d h ending

  clean : unbroken (payload d) ≡ true
  clean = payload-unbroken d h ending p.1.0

module _ (d : List ℕ) (b : Bytes d) (o : Passed (opening d)) (p : Packet) where
  abbrev Same : Type 0
  Same = Fit p × (write p ≡ d)

  -- a payload, under any of the three types
  carried : (kind : ℕ) (packet : List ℕ → Packet) → ((s : List ℕ) → Payload s → Fit (packet s))
      → ((s : List ℕ) → write (packet s) ≡ line kind s) → (kind ≡ 10 → ⊥) → get_or d 0 0 ≡ kind
      → checked (line_checks d) (taken (packet (payload d))) ≡ taken p → Same
  carried kind packet fit laid k q e =
      let r = all-passed (line_checks d) (taken (packet (payload d))) p e in
      let h : 2 ≤ length d = two_bytes d (eqb-true (last d) 10 r.0.0) (λ n. k (sym q ∙ n)) in
      let l : length d ≤ line_limit = leb-true (length d) line_limit o.1.0 in
      let m : length (payload d) ≤ 4096 = rw length-take (rw length-drop (omega arith)) in
      rw (← taken-same (packet (payload d)) p r.1) (
        fit (payload d) (bytes_take (length d - 2) (drop 1 d) (bytes_drop 1 d b), m, unbroken-none (payload d) (clean d h r.0)),
        laid (payload d) ∙ ap (λ (n : ℕ). line n (payload d)) (sym q) ∙ whole d h r.0,
      )

  -- a line of a fixed size, whatever the verdict on what it holds
  module _ (n : ℕ) (N : 2 ≤ n) (v : Verdict Packet) (e : checked (sized_checks n d) v ≡ taken p) where
    passed : Passed (sized_checks n d) × (v ≡ taken p)
    passed = all-passed (sized_checks n d) v p e

    size : length d ≡ n
    size = eqb-true (length d) n passed.0.0

    verdict : v ≡ taken p
    verdict = passed.1

    framed : (kind : ℕ) → get_or d 0 0 ≡ kind → line kind (field 1 (n - 2) d) ≡ d
    framed kind k = rw (← k, ← size) (whole d (omega (arith, size)) passed.0.1)

  -- a packet that holds nothing, under any of the four types
  bare : (kind : ℕ) (packet : Packet) → Fit packet → write packet ≡ line kind [] → get_or d 0 0 ≡ kind
      → checked (sized_checks 2 d) (taken packet) ≡ taken p → Same
  bare kind packet fit laid k e =
      rw (← taken-same packet p (verdict 2 (omega arith) (taken packet) e)) (fit, laid ∙ framed 2 (omega arith) (taken packet) e kind k)

  rejected : get_or d 0 0 ≡ 74 → read_reject d ≡ taken p → Same
  unfolding reject_of Fit
  rejected k e =
      let v = reject_of (get_or d 1 0) in
      let r = all-passed (reject_checks (get_or d 1 0)) (taken (reject (get_or d 1 0))) p (verdict 3 (omega arith) v e) in
      let c : field 1 1 d ≡ get_or d 1 0 ∷ [] = rw (drop-cons d 1 0 (omega (arith, size 3 (omega arith) v e))) in
      rw (← taken-same (reject (get_or d 1 0)) p r.1) (
        one-of-fact (get_or d 1 0) 65 83 r.0.0,
        ap (line 74) (sym c) ∙ framed 3 (omega arith) v e 74 k,
      )

  -- written again it is the packet's spelling, and the very bytes unless their number is padded with noughts
  abbrev Lawful : Type 0
  Lawful = Fit p × (write p ≡ spelling d) × (padded d ≡ false → write p ≡ d)

  -- which are one and the same for any type but A and L
  own : (kind : ℕ) (v : Verdict Packet) → eqb kind 65 ≡ false → eqb kind 76 ≡ false → (get_or d 0 0 ≡ kind → v ≡ taken p → Same)
      → get_or d 0 0 ≡ kind → v ≡ taken p → Lawful
  own kind v a l same k e =
      let s = same k e in
      (s.0, s.1 ∙ sym (unspelt d kind k a l), λ _. s.1)

  -- a number that was read, where it stands in d
  numbered : (before s : List ℕ) (place : ℕ) → length before ≡ place → length s ≡ 20 → before ++ s ++ 10 ∷ [] ≡ d → well_formed s ≡ true
      → not (blank s) ≡ true
      → let w = before ++ written (value_of s) ++ 10 ∷ [] in (w ≡ spelt_anew d place) × (leading_zero s ≡ false → w ≡ d)
  numbered before s place m l all f e = (
    sym (anew before s (10 ∷ []) place m l) ∙ ap (λ (x : List ℕ). spelt_anew x place) all,
    λ u. ap (λ (x : List ℕ). before ++ x ++ 10 ∷ []) (written_read s l f (not-true (blank s) e) u) ∙ all,
  )

  bounded : (n : ℕ) → leb n (2 ^ 64 - 1) ≡ true → n < 2 ^ 64
  bounded n h = omega (arith, leb-true n (2 ^ 64 - 1) h)

  accepted : get_or d 0 0 ≡ 65 → read_accept d ≡ taken p → Lawful
  unfolding Fit spelling padded
  accepted k e =
      let session = field 1 10 d in
      let number = field 11 20 d in
      let a = accept-taken d p e in
      let r = a.passed in
      let l : length d ≡ 32 = a.size in
      let m : length session ≡ 10 = length_part 1 10 d (omega arith) in
      let i : length number ≡ 20 = length_part 11 20 d (omega arith) in
      let framed-so = framed 32 (omega arith) (accept_of session number) e 65 k in
      let all : line 65 (session ++ number) ≡ d = ap (line 65) (sym (fields_join 1 10 20 d)) ∙ framed-so in
      let n = numbered (65 ∷ session) number 11 (omega arith) i all r.1.0 r.1.1.1.0 in
      let z = eqb-false (value_of number) 0 (not-true (eqb (value_of number) 0) r.1.1.1.1.0) in
      rw (← a.same) (
        ((m, r.0), not-true (blank session) r.1.1.0, omega arith, bounded (value_of number) r.1.1.1.1.1.0),
        rw k n.0,
        λ u. n.1 (rw k at u),
      )

  logged-in : get_or d 0 0 ≡ 76 → read_login d ≡ taken p → Lawful
  unfolding Fit spelling padded
  logged-in k e =
      let user = field 1 6 d in
      let password = field 7 10 d in
      let session = field 17 10 d in
      let number = field 27 20 d in
      let a = login-taken d p e in
      let r = a.passed in
      let l : length d ≡ 48 = a.size in
      let i : length number ≡ 20 = length_part 27 20 d (omega arith) in
      let texts : user ++ password ++ session ≡ field 1 26 d = rw (← fields_join 1 6 10 d, ← fields_join 1 16 10 d) in
      let m : length (76 ∷ (user ++ password ++ session)) ≡ 27 = rw texts (ap suc (length_part 1 26 d (omega arith))) in
      let joined : user ++ password ++ session ++ number ≡ field 1 46 d = rw (texts, ← fields_join 1 26 20 d) in
      let framed-so = framed 48 (omega arith) (login_of user password session number) e 76 k in
      let all : line 76 (user ++ password ++ session ++ number) ≡ d = ap (line 76) joined ∙ framed-so in
      let n = numbered (76 ∷ (user ++ password ++ session)) number 27 m i all r.1.1.1.0 r.1.1.1.1.1.0 in
      rw (← a.same) (
        (
          (length_part 1 6 d (omega arith), r.0),
          (length_part 7 10 d (omega arith), r.1.0),
          (length_part 17 10 d (omega arith), r.1.1.0),
          bounded (value_of number) r.1.1.1.1.1.1.0,
          not-true (blank user) r.1.1.1.1.0,
        ),
        rw k n.0,
        λ u. n.1 (rw k at u),
      )

  -- whatever its type byte
  sorted : (kind : ℕ) → get_or d 0 0 ≡ kind → by_type kind d ≡ taken p → Lawful
  unfolding Fit
  sorted kind =
      every-type (λ k. get_or d 0 0 ≡ k → by_type k d ≡ taken p → Lawful) kind
      (record {
        debug = own 43 _ refl refl (carried 43 debug (λ s f. f) (λ s. refl) (eqb-false 43 10 refl));
        accept = accepted;
        reject = own 74 _ refl refl rejected;
        sequenced = own 83 _ refl refl (carried 83 sequenced (λ s f. f) (λ s. refl) (eqb-false 83 10 refl));
        server_heartbeat = own 72 _ refl refl (bare 72 server_heartbeat tt refl);
        end_of_session = own 90 _ refl refl (bare 90 end_of_session tt refl);
        login = logged-in;
        unsequenced = own 85 _ refl refl (carried 85 unsequenced (λ s f. f) (λ s. refl) (eqb-false 85 10 refl));
        client_heartbeat = own 82 _ refl refl (bare 82 client_heartbeat tt refl);
        logout = own 79 _ refl refl (bare 79 logout tt refl);
      })
      (λ u _. not-both (by_type kind d) UnknownType p (unknown-is-3 kind d u))

-- Nothing else is taken: what is taken is lawful, and written again it gives its spelling, which is the very bytes that were read unless
-- their number is padded with noughts.
pub read-is-written : (d : List ℕ) (p : Packet) → Bytes d → read d ≡ taken p → Fit p × (write p ≡ spelling d)
    × (padded d ≡ false → write p ≡ d)
unfolding read
read-is-written d p b e =
    let r = all-passed (opening d) (by_type (get_or d 0 0) d) p e in
    sorted d b r.0 p (get_or d 0 0) refl r.1
