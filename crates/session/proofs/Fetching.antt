-- One exchange delivers the message that was first missing, and so as many exchanges as a hole has messages fetch it.
-- Assumes nothing.
use Prim.Native.Nat.{ℕ, ◌+◌, ◌-◌, ◌≤◌, ◌<◌, min}
use mathlib.Core.Path.{◌≡◌, sym, ap, ◌∙◌}
use mathlib.Core.List.{List, ◌∷◌}
use native.Mathlib.Omega.{arith}
use lib.ListN.{length}
use Rattle.wire.specs.Checks.{taken}
use Rattle.ufo.specs.Down as ufo
use Rattle.lend.specs.Answer.{answer_to}
use Rattle.reports.specs.Reports.{Report, of_ufo}
use Rattle.missing.specs.Missing.{◌to◌}
use Rattle.missing.specs.declared.Range.{Range}
use Rattle.record.specs.Standing.{missing, standing}
use Rattle.taking.specs.Taking.{Taking, taking}
use Rattle.asking.proofs.Asks.{Requests, requests}
use Rattle.session.specs.Session.{State, logged, takes, asks, step}
use Rattle.session.specs.Promise.{Delivered, Due, made, Exchange, Exchanges, none, more}
use Rattle.session.proofs.Genuine.{first_of, carried}
use Rattle.session.proofs.Line.{answers, answer-gives}
use Rattle.session.proofs.Invariant.{Vouches, Inv, Good, chain}
use Rattle.session.proofs.EveryStep.{took-so, brought, vouched-if-taken, good, along}
use Rattle.session.proofs.Deliveries.{delivered}
use Rattle.session.proofs.Standing.{begins-at-next, reaches}

-- what is due is a request for the first range that is missing
pub due-asks : (s : State) (first count : ℕ) (due : Due s first count) → Requests s.kept first count due.after
due-asks s first count due = requests s.kept due.sheet due.rule due.elapsed first count due.after due.wish

pub due-first : (s : State) (first count : ℕ) → Due s first count → (last : ℕ) × (others : List Range)
    × (standing s.kept ≡ taken (missing ((first to last) ∷ others))) × (count ≡ min (last - first + 1) 65535)
due-first s first count due =
    let a = due-asks s first count due in
    let f = begins-at-next s.kept a.hangs a.lacks in
    (f.last, f.others, f.stands ∙ ap (λ (n : ℕ). taken (missing ((n to f.last) ∷ f.others))) (sym a.from), rw f.are at a.many)

-- where a datagram of the line is taken that begins at or before N, what it carries has been delivered
takes-past : (w : State) (i : Inv w) (d : List ℕ) (g : Vouches w d) (room : ℕ) (took : Taking)
    → taking w.kept w.area d room ≡ taken took → first_of g.report ≤ w.kept.next.0
    → first_of g.report + length (carried g.report) ≤ (step w (takes d room)).kept.next.0
takes-past w i d g room took e h = rw (e, took-so w i d g room took e) ((brought w i d g).past h)

-- one datagram gives one report
pub same-report : (d : List ℕ) (p q : ufo.Packet) (a b : Report) → ufo.read d ≡ taken p → ufo.read d ≡ taken q → of_ufo p ≡ taken a
    → of_ufo q ≡ taken b → a ≡ b
same-report d p q a b e f g h =
    let same : p ≡ q = cc in
    let k : taken a ≡ taken b = sym g ∙ ap of_ufo same ∙ h in
    cc k

-- The answer begins at the number that was asked from, which is N or below by the time it arrives, and it brings that message: so once it
-- is taken, N is past it.
pub exchanged : (s t : State) → Inv s → Exchange s t → Good s t × (s.kept.next.0 < t.kept.next.0)
exchanged s t i x =
    let u : State = x.u in
    let w : State = x.w in
    let d : List ℕ = x.datagram in
    let f : ℕ = x.first in
    let a = due-asks s f x.count x.due in
    let g₁ : Good s (made s x.due x.room_up) = good s (asks x.due.sheet x.due.rule x.due.elapsed x.room_up) tt i in
    let g₂ : Good s u = chain g₁ (along x.run g₁.inv) in
    let j : Inv u = g₂.inv in
    let g₃ : Good u w = along x.later j in
    let k : Inv w = g₃.inv in
    let g₄ : Good w (step w (takes d x.room_out)) = good w (takes d x.room_out) x.arrives k in
    let p = answers u.log u.lent j.hung x.room_down d f x.count x.answer in
    let v = answer-gives u.log u.lent j.hung x.room_down d f x.count x.answer in
    let l = vouched-if-taken w k d (k.line d x.arrives) x.room_out x.took x.takes-it in
    let same : l.report ≡ p.report =
    same-report d l.packet (answer_to u.log.ended (logged u) f x.count) l.report p.report l.gives.reads v.reads
    l.vouched.reports p.vouched.reports in
    let low : f ≤ length (logged u) = omega (arith, a.from, a.lacks, i.hold.known, g₂.later.log) in
    let b : first_of p.report ≡ f = p.begins low in
    let c : 1 ≤ length (carried p.report) = p.brings low in
    let n : first_of p.report ≤ w.kept.next.0 = omega (arith, a.from, g₂.later.next, g₃.later.next) in
    let past = rw same at (takes-past w k d l x.room_out x.took x.takes-it (rw same n)) in
    rw x.left (chain g₂ (chain g₃ g₄), omega (arith, a.from))

pub counted : {s t : State} {n : ℕ} → Inv s → Exchanges s n t → Good s t × (s.kept.next.0 + n ≤ t.kept.next.0)
counted i (none r) = let g = along r i in (g, omega (arith, g.later.next))
counted i (more {t = t} {u = u} e x r) =
    let c = counted i e in
    let a = exchanged t u c.0.inv x in
    let b = along r a.0.inv in
    (chain c.0 (chain a.0 b), omega (arith, c.1, a.1, b.later.next))

pub fetched : (s t : State) → Inv s → (x : Exchange s t) → Delivered t x.first
fetched s t i x =
    let a = due-asks s x.first x.count x.due in
    let e = exchanged s t i x in
    delivered t e.0.inv x.first (omega (arith, a.from, i.hold.one)) (omega (arith, a.from, e.1))

pub filled : (s t : State) → Inv s → (n first last : ℕ) (others : List Range)
    → standing s.kept ≡ taken (missing ((first to last) ∷ others)) → Exchanges s n t → last + 1 - first ≤ n → (k : ℕ) → first ≤ k
    → k ≤ last → Delivered t k
filled s t i n first last others e x h k a b =
    let m = reaches s.kept first last others e in
    let c = counted i x in
    delivered t c.0.inv k (omega (arith, m.from, i.hold.one)) (omega (arith, m.from, c.1))
