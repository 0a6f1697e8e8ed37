-- The message that 0x12 brings is kept as the device keeps it, and read back from there. Assumes nothing.
use mathlib.Core.Path.{◌≡◌, refl, sym, ◌∙◌, ap, subst}
use mathlib.Core.Bool.{Bool, true, false}
use mathlib.Core.List.{List}
use Prim.Native.Nat.{ℕ, ◌+◌, ◌-◌, ◌*◌, ◌%◌, ◌^◌, ◌<◌, ◌≤◌}
use native.Mathlib.Nat.{div-one, mod-lt, mod-eq_of_lt}
use native.Mathlib.Omega.{arith}
use borrow.Author.Tests.{lt-ltb, le-leb, leb-true, eq-eqb}
use lib.Dec.{leb, lit<}
use lib.ListN.{length, take, drop, replicate, length-append, length-replicate, length-drop}
use lib.Seq.{length-take-le}
use Rattle.std.specs.Prelude.{unwrap_or}
use Rattle.base.specs.Bit.{byte}
use Rattle.base.specs.Pick.{pick, flag}
use Rattle.base.specs.Tabulate.{tabulate}
use Rattle.base.proofs.Booleans.{and_left, pick_keeps}
use Rattle.base.proofs.Lists.{listed, shift, tabulate_same}
use Rattle.frame.specs.declared.Header.{Header}
use Rattle.frame.specs.Length.{possible, data_fits, data_bytes, data_of}
use Rattle.frame.specs.Received.{received, header_in, data_in}
use Rattle.frame.specs.Tables.{id_bits, id_as_read}
use Rattle.frame.proofs.Data.{data_bytes_le}
use Rattle.frame.proofs.Parts.{code_fits}
use Rattle.to_send.specs.declared.ToSend.{ToSend}
use Rattle.to_send.specs.ToSend.{standard_header, extended_header, header_to_send, right_length, message_of, no_message as unsent, stored}
use Rattle.to_send.proofs.StoredBack.{stored_header, stored_data}
use Rattle.promise.specs.Frames.{data_count, data_byte}
use Rattle.promise.specs.Own.{Own, no_message, marks_extended, data_from, standard_written, extended_written, header_written, message_fits, message_in, own_message, Sendable}
use Rattle.promise.proofs.Queues.{data_length}
use Rattle.promise.proofs.Shown.{count_same, arrives_same, data_at, identifier_laid}

-- ---- the header

-- the device's, with its identifier cut to its width
abbrev reduced : Header → Header
reduced h = record { id = h.id % pick h.extended (2 ^ 29) (2 ^ 11); extended = h.extended; remote = h.remote; code = h.code }

by_kind : (t : Bool) (s : List ℕ)
    → pick t (extended_written s) (standard_written s)
    ≡ reduced (pick t (extended_header (byte s 2) (byte s 3) (byte s 4) (byte s 5) (byte s 6)) (standard_header (byte s 2) (byte s 3) (byte s 4)))
by_kind true s = rw (div-one (byte s 3))
by_kind false s = refl

header_reduced : (s : List ℕ) → header_written s ≡ reduced (header_to_send s)
unfolding header_to_send
header_reduced s = by_kind (marks_extended s) s

below : (t : Bool) (n : ℕ) → n % pick t (2 ^ 29) (2 ^ 11) < pick t (2 ^ 29) (2 ^ 11)
below true n = mod-lt n (lit< tt)
below false n = mod-lt n (lit< tt)

code_below : (s : List ℕ) → (header_to_send s).code ≤ 15
unfolding header_to_send
code_below s = pick_keeps (λ (h : Header). h.code ≤ 15) (marks_extended s) _ _ (omega arith) (omega arith)

possible_reduced : (h : Header) → h.code ≤ 15 → possible (reduced h) ≡ true
unfolding possible
possible_reduced h few = rw (lt-ltb _ _ (below h.extended h.id), le-leb h.code 15 few)

bits_cases : (t : Bool) (n : ℕ)
    → pick t (n % pick t (2 ^ 29) (2 ^ 11) % 2 ^ 29) (n % pick t (2 ^ 29) (2 ^ 11) % 2 ^ 11 * 2 ^ 18) ≡ pick t (n % 2 ^ 29) (n % 2 ^ 11 * 2 ^ 18)
bits_cases true n = mod-eq_of_lt (mod-lt n (lit< tt))
bits_cases false n = ap (λ (m : ℕ). m * 2 ^ 18) (mod-eq_of_lt (mod-lt n (lit< tt)))

bits_reduced : (h : Header) → id_bits (reduced h) ≡ id_bits h
unfolding id_bits
bits_reduced h = bits_cases h.extended h.id

-- ---- the data

module _ (h : Header) (xs : List ℕ) (enough : data_bytes h ≤ length xs) where
  pub eight_long : length (data_of h xs) ≡ 8
  unfolding data_of
  eight_long =
      let few = data_bytes_le h in
      rw (length-append (take (data_bytes h) xs) (replicate (8 - data_bytes h) 0), length-take-le (data_bytes h) xs enough, length-replicate {A = ℕ} (8 - data_bytes h) 0)
      (omega arith)

  data_listed : data_of h xs ≡ tabulate (data_byte h xs) 1 8
  data_listed =
      listed 0 (data_of h xs)
      ∙ rw eight_long (tabulate_same _ _ 0 8 (λ k p q. data_at h xs k))
      ∙ sym (shift (data_byte h xs) 0 8)

pick_twice : (t : Bool) (n : ℕ) → pick t (pick t n 0) 0 ≡ pick t n 0
pick_twice true n = refl
pick_twice false n = refl

-- data that were cut and filled up stay as they are
data_again : (h : Header) (xs : List ℕ) → tabulate (data_byte h (tabulate (data_byte h xs) 1 8)) 1 8 ≡ tabulate (data_byte h xs) 1 8
data_again h xs = simp pick_twice

-- ---- the message

abbrev to_send : Own → ToSend
to_send m = record { tag = m.tag; header = m.header; bytes = m.eight }

module _ (m : Own) (sendable : Sendable m) where
  pub header_possible : possible m.header ≡ true
  header_possible = and_left (possible m.header) _ (arrives_same m.header (data_count m.header) ∙ sendable.0)

  cut : data_of m.header m.eight ≡ m.eight
  cut =
      let long : 8 ≡ length m.eight = ap length sendable.1 in
      data_listed m.header m.eight (omega (arith, data_bytes_le m.header)) ∙ sendable.1

  own_stored : (own_message m).bytes ≡ stored (to_send m)
  unfolding stored received id_as_read
  own_stored =
      let small : m.header.code % 16 ≡ m.header.code = mod-eq_of_lt (omega (arith, code_fits m.header header_possible)) in
      rw (
        cut,
        small,
        ← identifier_laid m.header (flag m.header.extended) (flag m.header.remote) header_possible,
      )

  pub header_of : header_in (own_message m).bytes ≡ m.header
  header_of = rw own_stored (stored_header (to_send m) header_possible)

  pub eight_of : data_in (own_message m).bytes ≡ m.eight
  eight_of = rw own_stored (stored_data (to_send m) ∙ cut)

  pub own_few : length (own_message m).bytes ≤ 16
  unfolding stored received id_as_read
  own_few =
      let few = data_length m.header m.eight in
      subst (λ (bytes : List ℕ). length bytes ≤ 16) (sym own_stored) (omega arith)

-- the device's header is kept like the cut one
stored_reduced : (tag : ℕ) (h : Header) (bytes : List ℕ)
    → stored (record { tag = tag; header = h; bytes = bytes }) ≡ stored (record { tag = tag; header = reduced h; bytes = bytes })
unfolding stored received id_as_read data_of data_bytes
stored_reduced tag h bytes = rw (bits_reduced h)

pub none_sendable : Sendable no_message
none_sendable = (refl, refl)

-- what 0x12 brings, if it has its length

module _ (s : List ℕ) where
  pub fits_same : right_length s ≡ message_fits s
  unfolding right_length
  fits_same = rw (count_same (header_to_send s), header_reduced s)

  module _ (fits : right_length s ≡ true) where
    abbrev h : Header
    h = header_to_send s

    abbrev raw : List ℕ
    raw = drop (data_from s) s

    enough : data_bytes h ≤ length raw
    unfolding right_length
    enough =
        let long = leb-true (data_from s + data_bytes h) (length s) (and_left (leb (data_from s + data_bytes h) (length s)) _ fits) in
        rw (length-drop (data_from s) s) (omega arith)

    eight_is : (message_in s).eight ≡ data_of h raw
    eight_is = rw (header_reduced s) (sym (data_listed h raw enough))

    pub written_sendable : Sendable (message_in s)
    unfolding data_fits
    written_sendable =
        let g = header_written s in (
          sym (arrives_same g (data_count g))
              ∙ rw (header_reduced s, possible_reduced h (code_below s), eq-eqb (data_count (reduced h)) (data_bytes (reduced h)) (sym (count_same (reduced h)))),
          data_again g raw,
        )

    pub stored_own : stored (unwrap_or (message_of s) unsent) ≡ (own_message (message_in s)).bytes
    unfolding message_of
    stored_own =
        rw (fits, own_stored (message_in s) written_sendable, eight_is, header_reduced s) (stored_reduced (byte s 1) h (data_of h raw))
