-- Exactly the lawful packets are taken: reading what was written gives the messages, and writing what was read the bytes.
-- Assumes nothing.
use Prim.Native.Nat.{ℕ, ◌≤◌, ◌<◌}
use mathlib.Core.List.{List, [], ◌∷◌, map}
use mathlib.Core.Path.{◌≡◌, refl, ap, sym, ◌∙◌}
use native.Mathlib.Omega.{arith}
use borrow.Author.Tests.{leb-true}
use lib.ListN.{length, length-map}
use Rattle.wire.specs.Fields.{Bytes}
use Rattle.wire.specs.Checks.{Verdict, refused, taken}
use Rattle.wire.specs.Datagram.{limit, opening}
use Rattle.wire.specs.declared.refusal.Refusal.TheVariants.{Framing}
use Rattle.wire.proofs.Checks.{all-passed, not-both}
use Rattle.blocks.specs.Blocks.{frame, frames, Cut, torn, whole, upstream, Each, Short, Full}
use Rattle.blocks.proofs.Frames.{length-frames, frames-one, length-one, short-frames}
use Rattle.blocks.proofs.Cutting.{upstream-frames, frames-upstream}
use Rattle.ufo_up.specs.Up.{Message, write_message, write_up, FitMessage, FitAll, Fit, read_message, read_each, read_cut, read_up}
use Rattle.ufo_up.proofs.UpPacket.{opened}
use Rattle.ufo_up.proofs.UpExactOne.{full-message, length-message, read-message, write-message}

-- reading what was written
pub read-each : (ms : List Message) → FitAll ms → read_each (map write_message ms) ≡ taken ms
unfolding read_each
read-each [] f = refl
read-each (m ∷ ms) f = rw (read-message m f.0, read-each ms f.1)

pub full-messages : (ms : List Message) → Each Full (map write_message ms)
full-messages [] = tt
full-messages (m ∷ ms) = (full-message m, full-messages ms)

not-empty : (ms : List Message) → 0 < length ms → length (write_up ms) ≡ 0 → ⊥
not-empty [] h e = omega arith
not-empty (m ∷ ms) h e = omega (arith, length-frames (write_message m) (map write_message ms))

pub written-is-read : (ms : List Message) → Fit ms → read_up (write_up ms) ≡ taken ms
written-is-read ms f =
    let bs = map write_message ms in
    let s : Each Short bs = short-frames bs (omega (arith, f.short)) in
    let u : upstream (frames bs) ≡ whole bs = upstream-frames bs (rw (length-map ms write_message) f.some) s (full-messages ms) in
    opened (frames bs) (not-empty ms f.some) f.short ∙ ap read_cut u ∙ read-each ms f.all

-- writing what was read
pub write-each : (bs : List (List ℕ)) → Each Bytes bs → (ms : List Message) → read_each bs ≡ taken ms
    → FitAll ms × (map write_message ms ≡ bs)
unfolding read_each
write-each [] b ms e = let q : [] ≡ ms = cc in rw (← q) (tt, refl)
write-each (s ∷ bs) b ms e = by (read_message s) refl (read_each bs) refl (write-each bs b.1) where
  by : (v : Verdict Message) → read_message s ≡ v → (w : Verdict (List Message)) → read_each bs ≡ w
      → ((os : List Message) → read_each bs ≡ taken os → FitAll os × (map write_message os ≡ bs))
      → FitAll ms × (map write_message ms ≡ s ∷ bs)
  by (refused n) p w q more = not-both (read_each (s ∷ bs)) n ms (rw p refl) e
  by (taken m) p (refused n) q more = not-both (read_each (s ∷ bs)) n ms (rw (p, q) refl) e
  by (taken m) p (taken os) q more =
      let t : read_each (s ∷ bs) ≡ taken (m ∷ os) = rw (p, q) refl in
      let same : m ∷ os ≡ ms = cc (t, e) in
      let h = write-message s b.0 m p in
      let r = more os q in
      rw (← same) ((h.0, r.0), rw (h.1, r.1))

pub read-is-written : (d : List ℕ) → Bytes d → (ms : List Message) → read_up d ≡ taken ms → Fit ms × (write_up ms ≡ d)
unfolding read_up
read-is-written d b ms e =
    let p = all-passed (opening d) (read_cut (upstream d)) ms e in
    by (upstream d) refl p.1 (leb-true (length d) limit p.0.1.0) where
      by : (q : Cut) → upstream d ≡ q → read_cut q ≡ taken ms → length d ≤ limit → Fit ms × (write_up ms ≡ d)
      by torn u r l = not-both (refused Framing) Framing ms refl r
      by (whole bs) u r l =
          let f = frames-upstream d bs b u in
          let w = write-each bs f.3 ms r in
          let same : write_up ms ≡ d = ap frames w.1 ∙ f.0 in
          let n : length ms ≡ length bs = sym (length-map ms write_message) ∙ ap length w.1 in
          (record { some = omega (arith, f.1); all = w.0; short = rw same l }, same)

-- a packet of one lawful message
pub fit-one : (m : Message) → FitMessage m → Fit (m ∷ [])
fit-one m f =
    record { some = omega arith; all = (f, tt); short = rw (length-one (write_message m)) (omega (arith, length-message m f)) }

pub read_one : (m : Message) → FitMessage m → read_up (frame (write_message m)) ≡ taken (m ∷ [])
read_one m f = rw (← frames-one (write_message m)) (written-is-read (m ∷ []) (fit-one m f))
