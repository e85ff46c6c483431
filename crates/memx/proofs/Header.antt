-- The header: its fields read from what was laid out, and laid out from what was read.
-- Assumes nothing.
use Prim.Native.Nat.{ℕ, ◌+◌, ◌-◌, ◌^◌, ◌≤◌, ◌<◌}
use mathlib.Core.Path.{◌≡◌, refl, sym, ap}
use mathlib.Core.List.{List, [], ◌∷◌, ◌++◌, append-nil, append_assoc}
use native.Mathlib.Nat.{zero-add, add-sub_cancel_left}
use native.Mathlib.Omega.{arith}
use lib.ListN.{length, take, drop, set, length-append}
use lib.Seq.{drop-cons, drop-drop, take-append_seam, drop-append_seam, sets}
use Rattle.wire.specs.Fields.{bytes_of, Bytes}
use Rattle.wire.proofs.Width.{be-bytes_of, length-bytes_of, written-again, length_part, part-again, sets-after}
use Rattle.memx.specs.Packet.{header_size, headed, laid}
use Rattle.memx.specs.Read.{kind_in, header_in, session_in, number_in, extra_in, count_in, blocks_at}

module _ (kind session number : ℕ) (extra follows : List ℕ) where
  abbrev packet : List ℕ
  packet = headed kind session number extra follows

  pub length-headed : length packet ≡ header_size + length extra + length follows
  unfolding headed bytes_of
  length-headed = omega (arith, length-append extra follows)

  pub kind-headed : kind_in packet ≡ kind
  unfolding headed
  kind-headed = refl

  pub header-headed : header_in packet ≡ header_size + length extra
  unfolding headed
  header-headed = refl

  pub session-headed : session < 2 ^ 64 → session_in packet ≡ session
  unfolding headed
  session-headed h = be-bytes_of 8 session (bytes_of 8 number ++ (extra ++ follows)) h

  pub number-headed : number < 2 ^ 64 → number_in packet ≡ number
  unfolding headed bytes_of
  number-headed h = be-bytes_of 8 number (extra ++ follows) h

  pub extra-stands : take (length extra) (drop header_size packet) ≡ extra
  unfolding headed bytes_of
  extra-stands = take-append_seam extra follows

  pub extra-headed : extra_in packet ≡ extra
  extra-headed = rw (header-headed, add-sub_cancel_left header_size (length extra)) extra-stands

  pub follows-headed : drop (header_in packet) packet ≡ follows
  unfolding headed bytes_of
  follows-headed = rw (← drop-drop (length extra) header_size packet) (drop-append_seam extra follows)

  pub behind-headed : (n : ℕ) → drop (header_in packet + n) packet ≡ drop n follows
  behind-headed n = rw (← drop-drop n (header_in packet) packet, follows-headed)

-- the count and the blocks behind it
module _ (session first count : ℕ) (extra blocks : List ℕ) where
  abbrev messages : List ℕ
  messages = laid session first count extra blocks

  pub length-laid : length messages ≡ header_size + length extra + 2 + length blocks
  unfolding bytes_of
  length-laid = rw length-headed (omega arith)

  pub count-laid : count < 2 ^ 16 → count_in messages ≡ count
  count-laid h = rw follows-headed (be-bytes_of 2 count blocks h)

  pub blocks-laid : drop (blocks_at messages) messages ≡ blocks
  unfolding bytes_of
  blocks-laid = rw (behind-headed 2 session first extra (bytes_of 2 count ++ blocks) 2)

-- the header stored field by field
pub header-put : (out : List ℕ) (kind session number : ℕ) (extra : List ℕ)
    → let own = set (set out 0 kind) 1 (header_size + length extra) in
    sets (sets (sets own 2 (bytes_of 8 session)) 10 (bytes_of 8 number)) 18 extra ≡ sets out 0 (headed kind session number extra [])
unfolding headed bytes_of
header-put out kind session number extra = rw append-nil

-- a header alone, and then what follows it
headed-before : (kind session number : ℕ) (extra follows : List ℕ)
    → headed kind session number extra [] ++ follows ≡ headed kind session number extra follows
unfolding headed bytes_of
headed-before kind session number extra follows =
    ap (λ (x : List ℕ). kind ∷ (header_size + length extra) ∷ (bytes_of 8 session ++ (bytes_of 8 number ++ (x ++ follows))))
    (append-nil extra)

-- header, count and blocks stored one after the other
pub laid-put : (out : List ℕ) (session first count : ℕ) (extra blocks : List ℕ) → let n = header_size + length extra in
    sets (sets (sets out 0 (headed 2 session first extra [])) n (bytes_of 2 count)) (n + 2) blocks
    ≡ sets out 0 (laid session first count extra blocks)
laid-put out session first count extra blocks =
    let header = headed 2 session first extra [] in
    let field = bytes_of 2 count in
    let n = header_size + length extra in
    let long : length header ≡ n = rw length-headed (omega arith) in
    let longer : length (header ++ field) ≡ n + 2 = rw (length-append, long, length-bytes_of) in
    let one = rw zero-add at (sets-after out 0 n header field long) in
    let two = rw zero-add at (sets-after out 0 (n + 2) (header ++ field) blocks longer) in
    rw (one, two, append_assoc, headed-before)

-- as many extra bytes as the header says
pub length-extra : (d : List ℕ) → header_size ≤ header_in d → header_in d ≤ length d → length (extra_in d) ≡ header_in d - header_size
length-extra d h l = length_part header_size (header_in d - header_size) d (omega arith)

-- a header that says its own size, laid out again before what follows it
pub header-again : (d : List ℕ) → Bytes d → header_size ≤ header_in d → header_in d ≤ length d
    → headed (kind_in d) (session_in d) (number_in d) (extra_in d) (drop (header_in d) d) ≡ d
unfolding headed
header-again d b h l =
    let n = header_in d - header_size in
    let kind : d ≡ kind_in d ∷ drop 1 d = drop-cons d 0 0 (omega arith) in
    let header : drop 1 d ≡ header_in d ∷ drop 2 d = drop-cons d 1 0 (omega arith) in
    let long : header_size + length (extra_in d) ≡ header_in d = rw (length-extra d h l) (omega arith) in
    let whole : header_size + n ≡ header_in d = omega arith in
    let extra : extra_in d ++ drop (header_in d) d ≡ drop header_size d = rw whole at (part-again header_size n d) in
    rw (extra, long, written-again 8 10 d b (omega arith), written-again 8 2 d b (omega arith), ← header) (sym kind)
