-- The recorder takes every datagram that the log vouches for.
-- Assumes nothing.
use Prim.Native.Nat.{ℕ, ◌-◌, ◌^◌, ◌≤◌}
use mathlib.Core.Path.{◌≡◌, sym, ◌∙◌}
use mathlib.Core.List.{List, []}
use mathlib.Core.Bool.{Bool, true}
use native.Mathlib.Omega.{arith}
use lib.ListN.{length}
use Rattle.wire.specs.Checks.{Verdict, refused, taken}
use Rattle.wire.specs.declared.kinds.Name.{Name}
use Rattle.blocks.specs.Blocks.{frames}
use Rattle.blocks.proofs.Frames.{frames-none}
use Rattle.ufo.specs.Down as ufo
use Rattle.ufo.proofs.DownLaid.{length-laid}
use Rattle.record.specs.Record.{lawful, hangs}
use Rattle.reports.specs.Reports.{Report, of_ufo, report_of}
use Rattle.taking.specs.Taking.{delivered, Taking, outcome, reporting, taking}
use Rattle.record.specs.declared.Record.{Record}
use Rattle.record.specs.declared.Session.TheVariants.{Ufo}
use Rattle.record.proofs.Hanging.{hangs-so}
use Rattle.reports.proofs.Reports.{reports-ufo}
use Rattle.taking.proofs.Took.{took-report as reported, takes-report as reports}
use Rattle.session.specs.Session.{enough}
use Rattle.session.proofs.Genuine.{carried, Hold, Brings, brings}
use Rattle.session.proofs.Line.{Wrote}

-- a record of a UFO session
pub record Named (r : Record) : Type 0 where
  pub name : Name
  pub ufo : r.session ≡ Ufo name
  pub lawful : lawful r.session ≡ true

-- a lawful packet carries no more than 1,465 bytes of blocks
abbrev blocks_of : Verdict Report → List (List ℕ)
blocks_of (refused n) = []
blocks_of (taken report) = carried report

slim : (p : ufo.Packet) → ufo.Fit p → length (frames (blocks_of (of_ufo p))) ≤ 1465
slim (ufo.accept session next) f = omega (arith, frames-none)
slim (ufo.reject reason) f = omega (arith, frames-none)
slim (ufo.messages first ms) f = omega (arith, f.size, length-laid first (length ms) (frames ms))
slim (ufo.end total) f = omega (arith, frames-none)

module _ (ms : List (List ℕ)) (over : Bool) (few : length ms ≤ 2 ^ 32 - 2) (r : Record) (area : List ℕ) (got : List (List ℕ)) (n : Named r)
    (h : Hold ms over r area got) where
  pub hung : hangs r ≡ true
  hung =
      hangs-so r (record {
        begun = h.one;
        near = omega (arith, h.near);
        old = h.old;
        bound = rw n.ufo (omega (arith, h.known));
        named = n.lawful;
        placed = h.placed;
      })

  module _ (d : List ℕ) (w : Wrote ms over d) where
    as-reported : report_of r.session d ≡ taken w.report
    as-reported = rw (n.ufo, w.gives.bytes) (reports-ufo n.name w.packet w.gives.fit ∙ w.vouched.reports)

    pub brought : Brings ms over r area got w.report
    brought = brings ms over r area got w.report hung h w.vouched.genuine

    taken_as : (room : ℕ) → taking r area d room ≡ reporting r area room w.report
    unfolding taking
    taken_as room = rw (hung, h.sound, as-reported)

    -- a packet's blocks, and all that can be held
    pub fits : length (frames (delivered r area w.report)) ≤ 47097
    fits =
        let s : length (frames (carried w.report)) ≤ 1465 = rw w.vouched.reports at (slim w.packet w.gives.fit) in
        omega (arith, brought.lean)

    pub takes : (room : ℕ) → enough ≤ room → taking r area d room ≡ taken (outcome r area w.report)
    takes room e = taken_as room ∙ reports r area room w.report brought.fair (omega (arith, fits))

    pub took : (room : ℕ) (t : Taking) → taking r area d room ≡ taken t → t ≡ outcome r area w.report
    took room t e = (reported r area room w.report t (sym (taken_as room) ∙ e)).gives
