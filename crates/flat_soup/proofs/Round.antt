-- SoupTCP's round: what was read is written as its spelling, and what was written is read with the same fields.
-- Assumes nothing.
use Rattle.std.specs.Prelude.{if◌then◌else◌}
use Prim.Native.Nat.{ℕ, ◌+◌}
use mathlib.Core.Path.{◌≡◌, refl, sym, ap, ◌∙◌}
use mathlib.Core.List.{List, [], ◌∷◌, ◌++◌}
use mathlib.Core.Bool.{false}
use lib.ListN.{length, get_or, take}
use lib.Seq.{take_at}
use Rattle.wire.specs.Fields.{Bytes}
use Rattle.wire.specs.Checks.{◌is◌, taken, checked, ◌told_by◌}
use Rattle.wire.specs.Reply.{within}
use Rattle.wire.specs.declared.refusal.Refusal.TheVariants.{UnknownType}
use Rattle.decimal.specs.Decimal.{written}
use Rattle.decimal.proofs.Written.{read-written, length-written}
use Rattle.soup.specs.Packet as soup
use Rattle.soup.specs.Packet.{line_limit, line, carries, write, Fit}
use Rattle.soup.specs.Read.{read}
use Rattle.soup.specs.Reading.{packet_of}
use Rattle.soup.specs.Spelling.{spelling, padded}
use Rattle.soup.proofs.Lines.{payload-line, accept-found, login-found}
use Rattle.soup.proofs.Types.{every-type}
use Rattle.soup.proofs.Order.{all_checks, packet_in, read-by-checks}
use Rattle.soup.proofs.SpeltAnew.{unspelt, same-type}
use Rattle.soup.proofs.Exact.{written-is-read, read-is-written}
use Rattle.soup.proofs.Spelling.{read_alike, own-spelling}
use Rattle.soup_write.specs.Writing.{reply}
use Rattle.flat_packet.specs.declared.Packet.{Packet}
use Rattle.flat_packet.specs.declared.Read.{Read}
use Rattle.flat_packet.specs.Packets.{bare, named, rejected, payload as carried, logged_in}
use Rattle.flat_packet.specs.Fitting.{alone}
use Rattle.flat_packet.proofs.Round.{body_of, Flat, padded-right-text, padded-left-text, same_name, same-user, told-as-0, Round, rounds}
use Rattle.flat_packet.proofs.Round.{unfit-not-given, given-no-body, settled}
use Rattle.flat_soup.specs.Reading.{flat_soup, flat_said, soup_read}
use Rattle.flat_soup.specs.Writing.{soup_bare, soup_reply}
use Rattle.flat_soup.proofs.Refusing.{unknown-reply}

-- ---- what was read

-- a payload found in its line
inside : (s : List ℕ) → take (length s) (s ++ 10 ∷ []) ≡ s
inside s = take_at s (10 ∷ []) (length s) refl

-- a lawful packet laid flat, with its body, has its type byte and is written as that packet
flat-again : (q : soup.Packet) → Fit q → let p = (flat_soup (packet_of q)).packet in (p.kind ≡ get_or (write q) 0 0)
    × ((room : ℕ) → soup_reply p (body_of p (write q)) room ≡ reply q room)
unfolding soup_reply soup_bare Fit
flat-again (soup.debug text) f = (refl, λ room. rw (inside text))
flat-again (soup.accept session number) f = (refl, λ room. rw (same_name session (padded-left-text 10 session f.0)))
flat-again (soup.reject reason) f = (refl, λ room. refl)
flat-again (soup.sequenced message) f = (refl, λ room. rw (inside message))
flat-again soup.server_heartbeat f = (refl, λ room. refl)
flat-again soup.end_of_session f = (refl, λ room. refl)
flat-again (soup.login user password session number) f = (
  refl,
  λ room. rw (
    same-user user (padded-right-text 6 user f.0),
    same_name password (padded-right-text 10 password f.1),
    same_name session (padded-left-text 10 session f.2),
  ),
)
flat-again (soup.unsequenced message) f = (refl, λ room. rw (inside message))
flat-again soup.client_heartbeat f = (refl, λ room. refl)
flat-again soup.logout f = (refl, λ room. refl)

-- a body is no part of what is spelt anew: a packet that has one has no number
module _ (d : List ℕ) where
  numberless : (kind : ℕ) (s : List ℕ) → line kind s ≡ spelling d → kind is 65 ≡ false → kind is 76 ≡ false → spelling d ≡ d
  numberless kind s w = unspelt d kind (sym (same-type d) ∙ ap (λ (x : List ℕ). get_or x 0 0) (sym w))

  body-stays : (q : soup.Packet) → write q ≡ spelling d → let p = (flat_soup (packet_of q)).packet in body_of p (spelling d) ≡ body_of p d
  body-stays (soup.debug text) w = rw (numberless 43 text w refl refl)
  body-stays (soup.accept session number) w = refl
  body-stays (soup.reject reason) w = refl
  body-stays (soup.sequenced message) w = rw (numberless 83 message w refl refl)
  body-stays soup.server_heartbeat w = refl
  body-stays soup.end_of_session w = refl
  body-stays (soup.login user password session number) w = refl
  body-stays (soup.unsequenced message) w = rw (numberless 85 message w refl refl)
  body-stays soup.client_heartbeat w = refl
  body-stays soup.logout w = refl

module _ (d : List ℕ) (b : Bytes d) where
  round : (soup_read d).refusal ≡ 0 → Round soup_reply (spelling d) (soup_read d).packet
  round =
      rounds Fit write (λ size v. flat_said (v told_by packet_of)) soup_reply
      (λ q f. let a = flat-again q f in (a.0, λ room. a.1 room ∙ rw (written-is-read q f)))
      (spelling d) (read d) (λ q e. let l = read-is-written d q b e in (l.0, l.1)) (λ why. refl)

  -- what holds of every packet that was read
  took : (P : Read → Type 0) → ((q : soup.Packet) → read d ≡ taken q → P (flat_soup (packet_of q))) → (soup_read d).refusal ≡ 0
      → P (soup_read d)
  took P = told-as-0 (λ v. flat_said (v told_by packet_of)) P (λ why. refl) (read d)

  -- What was read, written with its body, is its spelling.
  pub read-then-written : (room : ℕ) → (soup_read d).refusal ≡ 0 → let p = (soup_read d).packet in
      soup_reply p (body_of p d) room ≡ within room (spelling d)
  read-then-written room e =
      let p = (soup_read d).packet in
      let s : body_of p (spelling d) ≡ body_of p d = took (λ r. body_of r.packet (spelling d) ≡ body_of r.packet d)
      (λ q t. body-stays d q (read-is-written d q b t).1) e in
      ap (λ (x : List ℕ). soup_reply p x room) (sym s) ∙ (round e).1 room

  -- These are the same bytes, unless its number is padded with noughts.
  pub same_bytes : (room : ℕ) → (soup_read d).refusal ≡ 0 → padded d ≡ false → let p = (soup_read d).packet in
      soup_reply p (body_of p d) room ≡ within room d
  same_bytes room e u =
      read-then-written room e ∙ ap (within room) (took (λ r. spelling d ≡ d) (λ q t. own-spelling d q b t u) e)

  -- The spelling is read with the same fields, and written again it stays as it is.
  pub spelling-then-read : (soup_read d).refusal ≡ 0 → soup_read (spelling d) ≡ soup_read d
  spelling-then-read = took (λ r. soup_read (spelling d) ≡ r) (λ q t. rw (read_alike d q b t))

  pub spelling-then-written : (room : ℕ) → (soup_read d).refusal ≡ 0 → let p = (soup_read (spelling d)).packet in
      soup_reply p (body_of p (spelling d)) room ≡ within room (spelling d)
  spelling-then-written room e = rw (spelling-then-read e) ((round e).1 room)

  -- The flat kind of a packet is its type byte.
  pub kind-is-the-type-byte : (soup_read d).refusal ≡ 0 → (soup_read d).packet.kind ≡ get_or d 0 0
  kind-is-the-type-byte e = (round e).0 ∙ same-type d

-- ---- what was written

-- the fields of a type, and where its body stands
abbrev kept_as : ℕ → Packet → List ℕ → Read
kept_as kind p body =
    if kind is 65 then named p.name p.number else
    if kind is 74 then rejected p.reason else
    if kind is 76 then logged_in p.user p.password p.name p.number 0 else
    if carries kind then carried kind 1 (length body) 0 else
    bare kind 0

abbrev pub kept : Packet → List ℕ → Read
kept p body = kept_as p.kind p body

-- a packet is found in its line, with its fields
abbrev Found : soup.Packet → Type 0
Found q = packet_in (get_or (write q) 0 0) (write q) ≡ q

module _ (p : Packet) (f : Flat p) (body : List ℕ) (room : ℕ) (d : List ℕ) where
  abbrev As : ℕ → Type 0
  As kind = soup_read d ≡ kept_as kind p body

  read_as : (q : soup.Packet) → Found q → reply q room ≡ taken d → soup_read d ≡ flat_soup (packet_of q)
  read_as q found e =
      let w = write q in
      let decide = read-by-checks w ∙ ap (λ (x : soup.Packet). checked (all_checks w) (taken x)) found in
      rw (settled read (all_checks w) q w room d decide e).back

  alone-as : (q : soup.Packet) (size : ℕ) → Found q → alone line_limit size body (reply q room) ≡ taken d
      → soup_read d ≡ flat_soup (packet_of q)
  alone-as q size found e = read_as q found (given-no-body line_limit size body (reply q room) d e).1

  accept-as : alone line_limit 32 body (reply (soup.accept p.name p.number) room) ≡ taken d → soup_read d ≡ named p.name p.number
  accept-as e =
      let found = accept-found p.name (written p.number) f.name.0 (length-written p.number) in
      alone-as (soup.accept p.name p.number) 32 (rw (found.0, found.1, (read-written p.number f.number).value)) e
      ∙ rw (same_name p.name f.name)

  login-as : alone line_limit 48 body (reply (soup.login p.user p.password p.name p.number) room) ≡ taken d
      → soup_read d ≡ logged_in p.user p.password p.name p.number 0
  login-as e =
      let n = length-written p.number in
      let found = login-found p.user p.password p.name (written p.number) f.user.0 f.password.0 f.name.0 n in
      alone-as (soup.login p.user p.password p.name p.number) 48
      (rw (found.0, found.1, found.2, found.3, (read-written p.number f.number).value)) e
      ∙ rw (same-user p.user f.user, same_name p.password f.password, same_name p.name f.name)

  -- What was written is read with the same fields, and nothing else.
  pub written-then-read : soup_reply p body room ≡ taken d → soup_read d ≡ kept p body
  unfolding soup_reply soup_bare
  written-then-read e =
      every-type (λ kind. p.kind ≡ kind → As kind) p.kind
      (record {
        debug = λ k. read_as (soup.debug body) (rw (payload-line 43 body)) (rw k at e);
        accept = λ k. accept-as (rw k at e);
        reject = λ k. alone-as (soup.reject p.reason) 3 refl (rw k at e);
        sequenced = λ k. read_as (soup.sequenced body) (rw (payload-line 83 body)) (rw k at e);
        server_heartbeat = λ k. alone-as soup.server_heartbeat 2 refl (rw k at e);
        end_of_session = λ k. alone-as soup.end_of_session 2 refl (rw k at e);
        login = λ k. login-as (rw k at e);
        unsequenced = λ k. read_as (soup.unsequenced body) (rw (payload-line 85 body)) (rw k at e);
        client_heartbeat = λ k. alone-as soup.client_heartbeat 2 refl (rw k at e);
        logout = λ k. alone-as soup.logout 2 refl (rw k at e);
      })
      (λ u _. unfit-not-given line_limit (2 + length body) UnknownType d (sym (unknown-reply p body room u) ∙ e))
      refl
