-- What is answered to a call: refused, all of the piece dropped, or gathered from a place on.
-- Assumes nothing.
use Prim.Native.Nat.{ℕ, suc, ◌+◌, ◌-◌, ◌≤◌, ◌<◌}
use mathlib.Core.Path.{◌≡◌, sym, ap, ◌∙◌}
use mathlib.Core.List.{List, [], ◌∷◌, ◌++◌, append-nil}
use mathlib.Core.Bool.{Bool, true, false}
use native.Mathlib.Omega.{arith}
use lib.ListN.{length, take, drop, length-drop}
use lib.Seq.{take_all, take-length, split_at, drop-drop}
use borrow.Author.Tests.{le-leb, lt-leb}
use Rattle.soup_pieces.specs.Searching.{slice, index_of}
use Rattle.wire.specs.Checks.{refused, taken}
use Rattle.wire.specs.declared.refusal.Refusal.TheVariants.{Framing, Broken}
use Rattle.soup.specs.Read.{unbroken}
use Rattle.soup_pieces.specs.Machine.{empty, used_up, first}
use Rattle.soup_pieces.specs.Eating.{machine_of, pieces_of, ready, eating, Returned}
use Rattle.soup_pieces.specs.declared.Pieces.{Pieces}
use Rattle.soup_pieces.specs.declared.Taken.TheVariants as takes
use Rattle.soup_pieces.proofs.Stretches.{holding, drops-on, drops-out}
use Rattle.soup_pieces.proofs.Searches.{unbroken-before, linefeed-there}
use Rattle.soup_pieces.proofs.Ready.{Readiness, ready-says}

module _ (pieces : Pieces) (buffer piece : List ℕ) (place : ℕ) where
  pub broken : ready pieces buffer ≡ false → Returned (eating pieces buffer piece place) buffer piece (refused Broken) buffer
  unfolding eating
  broken h = record { answer = rw h; bytes = rw h }

  module _ (h : ready pieces buffer ≡ true) where
    pub past_end : length piece < place → Returned (eating pieces buffer piece place) buffer piece (refused Framing) buffer
    unfolding eating
    past_end p = let t = lt-leb place (length piece) p in record { answer = rw (h, t); bytes = rw (h, t) }

    module _ (p : place ≤ length piece) where
      abbrev w : List ℕ
      w = drop place piece

      pub goes_on : eating pieces buffer piece place ≡ taken (first (machine_of pieces buffer) w)
      unfolding eating
      goes_on = rw (h, le-leb place (length piece) p)

      known : Readiness pieces buffer
      known = ready-says pieces buffer h

      -- ---- while dropping

      module _ (d : pieces.dropping ≡ true) where
        none : pieces.kept ≡ 0
        none = known.none d

        dropping-machine : machine_of pieces buffer ≡ empty true pieces.next.0
        dropping-machine = rw (d, none)

        dropping-pieces : pieces ≡ pieces_of (empty true pieces.next.0)
        dropping-pieces = same pieces.kept pieces.dropping none d where
          same : (k : ℕ) (b : Bool) → k ≡ 0 → b ≡ true
              → ◌≡◌ {A = Pieces} (record { kept = k; dropping = b; next = pieces.next })
              (record { kept = 0; dropping = true; next = pieces.next })
          same k b e t = rw (e, t)

        module _ (found : ℕ) (at : found ≡ place + index_of 10 (slice place (length piece) piece)) where
          at-w : found ≡ place + index_of 10 w
          unfolding slice
          at-w = at ∙ rw take-length

          length-w : length w ≡ length piece - place
          length-w = length-drop place piece

          pub all-dropped : found ≡ length piece
              → Returned (eating pieces buffer piece place) buffer piece (taken (takes.UsedUp pieces)) buffer
          unfolding first
          all-dropped e =
              let u : unbroken w ≡ true = rw (take_all (index_of 10 w) w (omega (arith, at-w, length-w))) at (unbroken-before w) in
              let t = empty true pieces.next.0 in
              let goes : first t w ≡ used_up t = ap (first t) (sym (append-nil w)) ∙ drops-on pieces.next.0 w [] u in
              record {
                answer = rw (goes_on, dropping-machine, goes) (ap (λ (p : Pieces). taken (takes.UsedUp p)) dropping-pieces);
                bytes = rw (goes_on, dropping-machine, goes);
              }

          pub dropped : found < length piece
              → first (machine_of pieces buffer) w ≡ first (holding pieces.next.0 (take pieces.kept buffer)) (drop (found + 1) piece)
          dropped l =
              let j = index_of 10 w in
              let k : j < length w = omega (arith, at-w, length-w) in
              let split : w ≡ take j w ++ 10 ∷ drop (suc j) w = split_at w j 0 k ∙ rw (linefeed-there w k) in
              let n : place + suc j ≡ found + 1 = omega (arith, at-w) in
              let there : drop (suc j) w ≡ drop (found + 1) piece = drop-drop (suc j) place piece ∙ rw n in
              let out = drops-out pieces.next.0 (take j w) (drop (suc j) w) (unbroken-before w) in
              rw (dropping-machine, none) (ap (first (empty true pieces.next.0)) split ∙ out ∙ rw there)

      pub kept-still : pieces.dropping ≡ false
          → first (machine_of pieces buffer) w ≡ first (holding pieces.next.0 (take pieces.kept buffer)) w
      kept-still d = rw d
