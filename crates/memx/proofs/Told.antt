-- Past the header's checks those of the type are left, and what is taken then is told field by field.
-- Assumes nothing.
use Prim.Native.Nat.{ℕ, ◌-◌, ◌≤◌}
use mathlib.Core.Path.{◌≡◌, refl, sym, ◌∙◌}
use mathlib.Core.List.{List, [], ◌∷◌}
use native.Mathlib.Omega.{arith}
use borrow.Author.Tests.{eqb-true, leb-true, ne_eqb}
use lib.ListN.{length, drop}
use Rattle.std.specs.Prelude.{if◌then◌else◌}
use Rattle.wire.specs.Checks.{◌is◌, Check, checked, Passed, Verdict, taken, ◌told_by◌}
use Rattle.wire.specs.declared.kinds.Sequence.{Sequence}
use Rattle.wire.proofs.Checks.{through}
use Rattle.wire.proofs.Tests.{by-test, tests}
use Rattle.blocks.specs.Blocks.{messages_of}
use Rattle.blocks.proofs.Counting.{whole_is, length_cut}
use Rattle.memx.specs.Packet.{limit, header_size}
use Rattle.memx.specs.Read.{kind_in, header_in, session_in, number_in, extra_in, count_in, blocks_at, blocks_in, news_checks}
use Rattle.memx.specs.Read.{messages_checks, news, read_news, read_messages, read}
use Rattle.memx.specs.Reading.{memx_of}
use Rattle.memx.specs.declared.reading.Memx.{Memx}
use Rattle.memx.specs.declared.reading.Says.{Says}
use Rattle.memx.specs.declared.reading.Says.TheVariants.{Heartbeat, Shutdown, Messages}
use Rattle.memx.proofs.Header.{length-extra}

-- two verdicts behind the same checks, equal where those are passed
alike : {A : Type 0} (cs : List Check) (v w : Verdict A) → (Passed cs → v ≡ w) → checked cs v ≡ checked cs w
alike [] v w f = f tt
alike (c ∷ cs) v w f = by-test c.test (λ q. rw q (alike cs v w (λ p. f (q, p)))) (λ q. rw q)

-- what is taken behind some checks, told in two ways that agree once they are passed
told-alike : {A B C : Type 0} (cs : List Check) (a : A) (b : B) (f : A → C) (g : B → C) → (Passed cs → f a ≡ g b)
    → checked cs (taken a) told_by f ≡ checked cs (taken b) told_by g
told-alike {C = C} cs a b f g same =
    through (λ v. v told_by f) (λ _. refl) cs (taken a)
    ∙ alike cs (taken (f a)) (taken (g b)) (λ p. rw (same p))
    ∙ sym (through (λ v. v told_by g) (λ _. refl) cs (taken b))

module _ (d : List ℕ) where
  pub record Headed : Type 0 where
    pub size : length d ≤ limit
    pub own : header_size ≤ length d
    pub header : header_size ≤ header_in d
    pub byte : header_in d ≤ 255

  past-header : Headed → kind_in d ≤ 2 → read d ≡ (if kind_in d is 2 then read_messages d else read_news (kind_in d) d)
  unfolding read
  past-header h k =
      let size = h.size in
      let own = h.own in
      let header = h.header in
      let byte = h.byte in
      let some : ¬ (length d ≡ 0) = λ e. omega arith in
      rw (ne_eqb (length d) 0 some) (search tests)

  -- the code's own fields
  abbrev pub tell : Says → Memx
  tell says = record { session = record { 0 = session_in d }; extra = header_in d - header_size; says = says }

  abbrev number : Sequence
  number = record { 0 = number_in d }

  -- heartbeat and shutdown at once
  news-told : Headed → kind_in d ≤ 1 → (says : Sequence → Says)
      → (header_in d ≤ length d → memx_of (news (kind_in d) (session_in d) (number_in d) (extra_in d)) ≡ tell (says number))
      → read d told_by memx_of ≡ checked (news_checks d) (taken number) told_by (λ n. tell (says n))
  unfolding read_news
  news-told h k says same =
      rw (past-header h (omega arith), ne_eqb (kind_in d) 2 (λ e. omega arith))
      (told-alike (news_checks d) _ number memx_of (λ n. tell (says n))
      (λ p. let l = eqb-true (length d) (header_in d) p.0 in same (omega arith)))

  pub heartbeat-told : Headed → kind_in d ≡ 0
      → read d told_by memx_of ≡ checked (news_checks d) (taken number) told_by (λ n. tell (Heartbeat n))
  heartbeat-told h k = news-told h (omega arith) Heartbeat (λ l. rw (k, length-extra d h.header l))

  pub shutdown-told : Headed → kind_in d ≡ 1
      → read d told_by memx_of ≡ checked (news_checks d) (taken number) told_by (λ n. tell (Shutdown n))
  shutdown-told h k = news-told h (omega arith) Shutdown (λ l. rw (k, length-extra d h.header l))

  pub messages-told : Headed → kind_in d ≡ 2
      → read d told_by memx_of ≡ checked (messages_checks d) (taken (Messages number (count_in d))) told_by tell
  unfolding read_messages
  messages-told h k =
      rw (past-header h (omega arith), k)
      (told-alike (messages_checks d) _ (Messages number (count_in d)) memx_of tell
      (λ p.
      let there = leb-true (blocks_at d) (length d) p.0 in
      let n = length_cut (count_in d) (drop (blocks_at d) d) (messages_of (blocks_in d)) (whole_is (blocks_in d) p.1.0) in
      rw (n, length-extra d h.header (omega arith))))
