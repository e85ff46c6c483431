-- What is answered of a line that has ended, by its first byte, by what the reader says of it, and by whether it is its turn.
-- Assumes nothing.
use Rattle.std.specs.Prelude.{None, Some}
use Prim.Native.Nat.{ℕ, ◌+◌, ◌-◌, ◌^◌, ◌≤◌, ◌<◌}
use mathlib.Core.Path.{◌≡◌, refl, sym, ◌∙◌}
use mathlib.Core.List.{List, [], ◌∷◌, ◌++◌}
use mathlib.Core.Bool.{true, false}
use native.Mathlib.Numerals.{add-one}
use native.Mathlib.Omega.{arith}
use lib.Dec.{eqb}
use lib.ListN.{length, get_or, drop, length-append, length-drop}
use lib.Seq.{length-take-le, take_at, get_or_at}
use borrow.Author.Tests.{eq-eqb, ne_eqb, eqb-false, leb-true, not-true}
use Rattle.wire.specs.Fields.{Bytes}
use Rattle.wire.specs.Checks.{Verdict, refused, taken, checked, ◌into◌, ◌told_by◌}
use Rattle.wire.proofs.Checks.{not-both, taken-same, all-passed, passed-all, into-checked, Told, told, told-refused}
use Rattle.wire.proofs.Tests.{impossible}
use Rattle.wire.specs.declared.refusal.Refusal.{Refusal}
use Rattle.wire.specs.declared.refusal.Refusal.TheVariants.{NotForRecord}
use Rattle.wire.specs.declared.kinds.Name.{Name}
use Rattle.wire.specs.declared.kinds.Sequence.{Sequence}
use Rattle.soup.specs.Packet.{Packet, debug, accept, reject, sequenced, server_heartbeat, end_of_session, login, unsequenced}
use Rattle.soup.specs.Packet.{client_heartbeat}
use Rattle.soup.specs.Packet.{logout, write}
use Rattle.soup.specs.Read.{last, payload, unbroken, line_checks, read}
use Rattle.soup.specs.Reading.{packet_of}
use Rattle.soup.specs.declared.reading.Reading.{Reading}
use Rattle.soup.specs.declared.reading.Reading.TheVariants.{Accept, Sequenced}
use Rattle.soup.proofs.Exact.{read-is-written}
use Rattle.soup.proofs.SpeltAnew.{same-type}
use Rattle.soup.proofs.Lines.{two_bytes}
use Rattle.soup.proofs.Sorting.{by-type}
use Rattle.soup_pieces.specs.Machine.{begins, counted, neither, role_of, turn_checks, judge}
use Rattle.soup_pieces.specs.Closing.{Line, empty_pieces, judged_of, closed_of, closed}
use Rattle.soup_pieces.specs.declared.closing.Judged.{Judged}
use Rattle.soup_pieces.specs.declared.Taken.TheVariants as takes
use Rattle.soup_pieces.proofs.Turns.{second}
use Rattle.soup_pieces.proofs.Order.{reader-first}

-- not Login Accepted
abbrev Other : Reading → Type 0
Other r = (session : Name) (number : Sequence) → r ≡ Accept session number → ⊥

-- a packet's role by what the code answers of it, and by its first byte: no packet but an S has that of one
record RoleByAnswer (p : Packet) : Type 0 where
  accepted : (session : Name) (number : Sequence) → packet_of p ≡ Accept session number → role_of p ≡ begins number.0
  other : Other (packet_of p) → (get_or (write p) 0 0 ≡ 83 → ⊥) → role_of p ≡ neither

role-by-answer : (p : Packet) → RoleByAnswer p
role-by-answer (debug text) = record { accepted = λ s n e. impossible cc; other = λ k b. refl }
role-by-answer (accept session number) = record { accepted = λ s n e. cc; other = λ k b. absurd (k _ _ refl) }
role-by-answer (reject reason) = record { accepted = λ s n e. impossible cc; other = λ k b. refl }
role-by-answer (sequenced message) = record { accepted = λ s n e. impossible cc; other = λ k b. absurd (b refl) }
role-by-answer server_heartbeat = record { accepted = λ s n e. impossible cc; other = λ k b. refl }
role-by-answer end_of_session = record { accepted = λ s n e. impossible cc; other = λ k b. refl }
role-by-answer (login user password session number) = record { accepted = λ s n e. impossible cc; other = λ k b. refl }
role-by-answer (unsequenced message) = record { accepted = λ s n e. impossible cc; other = λ k b. refl }
role-by-answer client_heartbeat = record { accepted = λ s n e. impossible cc; other = λ k b. refl }
role-by-answer logout = record { accepted = λ s n e. impossible cc; other = λ k b. refl }

pub not-empty : (d : List ℕ) → Line d → 1 ≤ length d
not-empty d l = some d l.ends where
  some : (d : List ℕ) → last d ≡ 10 → 1 ≤ length d
  some [] e = absurd (omega arith)
  some (b ∷ d) e = omega arith

-- what was gathered, and its linefeed, are a line
pub ends-line : (s : List ℕ) → unbroken s ≡ true → length s ≤ 4097 → Line (s ++ 10 ∷ [])
ends-line s u h =
    let l : length (s ++ 10 ∷ []) ≡ length s + 1 = simp length-append (omega arith) in
    let k : length (s ++ 10 ∷ []) - 1 ≡ length s = omega arith in
    record {
      short = omega arith;
      ends = rw k (get_or_at s 10 [] 0 (length s) refl);
      whole = rw (k, take_at s (10 ∷ []) (length s) refl) u;
    }

-- an S has its turn
abbrev Turn : ℕ → Verdict Unit
Turn next = checked (turn_checks next counted) (taken tt)

-- the number after that of an S whose turn it is
pub one_more : (next : ℕ) (r : Verdict Unit) (u : Unit) → r ≡ Turn next → r ≡ taken u → (next ≡ 0 → ⊥) × (next + 1 < 2 ^ 64)
one_more next r u e f =
    let p = (all-passed (turn_checks next counted) (taken tt) u (sym e ∙ f)).0 in
    let low = leb-true next (2 ^ 64 - 2) p.1.0 in
    (eqb-false next 0 (not-true (eqb next 0) p.0), omega arith)

module _ (d : List ℕ) (l : Line d) (next : ℕ) where
  -- ---- a line that begins with S

  module _ (first : get_or d 0 0 ≡ 83) (r : Verdict Unit) (e : r ≡ Turn next) where
    pub two : 2 ≤ length d
    two = two_bytes d l.ends (λ e. let z : ◌≡◌ {A = ℕ} 83 10 = sym first ∙ e in eqb-false 83 10 refl z)

    is-sequenced : read d ≡ taken (sequenced (payload d))
    is-sequenced =
        by-type d 83 (λ e. omega (arith, not-empty d l)) l.short first
        ∙ passed-all (line_checks d) (taken (sequenced (payload d))) (eq-eqb (last d) 10 l.ends, (l.whole, tt))

    by-turn : judge next d ≡ r into λ _. taken (sequenced (payload d))
    unfolding judge
    by-turn = rw (is-sequenced, e) (sym (into-checked (turn_checks next counted) (taken tt) (λ _. taken (sequenced (payload d)))))

    pub judged-message-refused : (why : Refusal) → r ≡ refused why → refused why ≡ judge next d told_by judged_of next
    judged-message-refused why f = rw (by-turn, f)

    pub judged-message-taken : (u : Unit) → r ≡ taken u
        → taken (record { packet = Sequenced 1 (length d - 2); number = Some (record { 0 = next }); next = record { 0 = next + 1 } })
        ≡ judge next d told_by judged_of next
    judged-message-taken u f =
        let m : length (payload d) ≡ length d - 2 = length-take-le (length d - 2) (drop 1 d) (rw length-drop (omega (arith, two))) in
        rw (by-turn, f, ne_eqb next 0 (one_more next r u e f).0, m, add-one)

  -- ---- any other, by the reader's answer

  module _ (r : Verdict Reading) (e : r ≡ read d told_by packet_of) where
    pub judged-unread-refused : (why : Refusal) → r ≡ refused why → refused why ≡ judge next d told_by judged_of next
    judged-unread-refused why k = rw (reader-first next d why (told-refused (read d) packet_of why (sym e ∙ k)))

    module _ (said : Reading) (s : r ≡ taken said) where
      of : Told (read d) packet_of said
      of = told (read d) packet_of said (sym e ∙ s)

      module _ (session : Name) (number : Sequence) (k : said ≡ Accept session number) where
        begins-there : role_of of.by ≡ begins number.0
        begins-there = (role-by-answer of.by).accepted session number (of.gave ∙ k)

        pub judged-accept-taken : next ≡ 0
            → taken (record { packet = Accept session number; number = None; next = number }) ≡ judge next d told_by judged_of next
        unfolding judge of
        judged-accept-taken n = rw (of.was, begins-there, n, begins-there, of.gave, k)

        -- a second one
        pub judged-accept-refused : (next ≡ 0 → ⊥) → refused NotForRecord ≡ judge next d told_by judged_of next
        judged-accept-refused n = rw (second next d of.by of.was number.0 begins-there n)

      pub judged-other-taken : Bytes d → (get_or d 0 0 ≡ 83 → ⊥) → Other said
          → taken (record { packet = said; number = None; next = record { 0 = next } }) ≡ judge next d told_by judged_of next
      unfolding judge
      judged-other-taken b f k =
          let s : get_or (write of.by) 0 0 ≡ 83 → ⊥ = rw ((read-is-written d of.by b of.was).1, same-type d) f in
          let t = (role-by-answer of.by).other (rw of.gave k) s in
          rw (of.was, t, t, of.gave)

-- ---- what is answered of a line that was judged

module _ (d : List ℕ) (next place : ℕ) where
  pub closed-taken : (j : Judged) → judge next d told_by judged_of next ≡ taken j
      → takes.Packet j.packet j.number (length d) place (empty_pieces false j.next.0) ≡ closed d next place
  unfolding closed
  closed-taken j = by (judge next d) where
    by : (v : Verdict Packet) → v told_by judged_of next ≡ taken j
        → takes.Packet j.packet j.number (length d) place (empty_pieces false j.next.0) ≡ closed_of next d place v
    by (refused why) e = not-both (refused why) why j refl e
    by (taken p) e = let q : judged_of next p ≡ j = taken-same (judged_of next p) j e in rw (← q)

  pub closed-refused : (why : Refusal) → judge next d told_by judged_of next ≡ refused why
      → takes.Unfit why (length d) place (empty_pieces false next) ≡ closed d next place
  unfolding closed
  closed-refused why e = rw (told-refused (judge next d) (judged_of next) why e)

-- ---- so by the line's first byte, by the reader's answer, and by whether it is its turn

module _ (d : List ℕ) (l : Line d) (next place : ℕ) where
  module _ (first : get_or d 0 0 ≡ 83) (r : Verdict Unit) (e : r ≡ Turn next) where
    pub message-refused : (why : Refusal) → r ≡ refused why
        → takes.Unfit why (length d) place (empty_pieces false next) ≡ closed d next place
    message-refused why f = closed-refused d next place why (sym (judged-message-refused d l next first r e why f))

    pub message-taken : (u : Unit) → r ≡ taken u
        → takes.Packet (Sequenced 1 (length d - 2)) (Some (record { 0 = next })) (length d) place (empty_pieces false (next + 1))
        ≡ closed d next place
    message-taken u f = closed-taken d next place _ (sym (judged-message-taken d l next first r e u f))

  module _ (r : Verdict Reading) (e : r ≡ read d told_by packet_of) where
    pub unread-refused : (why : Refusal) → r ≡ refused why
        → takes.Unfit why (length d) place (empty_pieces false next) ≡ closed d next place
    unread-refused why k = closed-refused d next place why (sym (judged-unread-refused d l next r e why k))

    module _ (said : Reading) (s : r ≡ taken said) where
      module _ (session : Name) (number : Sequence) (k : said ≡ Accept session number) where
        pub accept-taken : next ≡ 0
            → takes.Packet (Accept session number) None (length d) place (empty_pieces false number.0) ≡ closed d next place
        accept-taken n = closed-taken d next place _ (sym (judged-accept-taken d l next r e said s session number k n))

        -- a second one
        pub accept-refused : (next ≡ 0 → ⊥)
            → takes.Unfit NotForRecord (length d) place (empty_pieces false next) ≡ closed d next place
        accept-refused n = closed-refused d next place NotForRecord (sym (judged-accept-refused d l next r e said s session number k n))

      pub other-taken : Bytes d → (get_or d 0 0 ≡ 83 → ⊥) → Other said
          → takes.Packet said None (length d) place (empty_pieces false next) ≡ closed d next place
      other-taken b f k = closed-taken d next place _ (sym (judged-other-taken d l next r e said s b f k))
