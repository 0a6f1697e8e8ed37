-- What 0x12 reads in the bytes written for a message is that message. Assumes nothing.
use mathlib.Core.Path.{◌≡◌, refl, ap, sym, ◌∙◌}
use mathlib.Core.Bool.{Bool, true, false}
use mathlib.Core.List.{List, ◌∷◌, ◌++◌}
use Prim.Native.Nat.{ℕ, ◌+◌, ◌*◌, ◌/◌, ◌%◌, ◌^◌, ◌<◌, ◌≤◌}
use native.Mathlib.Nat.{mod-eq_of_lt, mod-lt}
use native.Mathlib.Omega.{arith}
use borrow.Author.Tests.{le-leb}
use lib.Dec.{lit<, lit≤}
use lib.ListN.{length, take, drop}
use Rattle.std.specs.Prelude.{Some}
use Rattle.base.specs.Bit.{bit, bits}
use Rattle.base.specs.Pick.{pick, flag}
use Rattle.base.proofs.Booleans.{flag_le, flag_back}
use Rattle.frame.specs.declared.Header.{Header}
use Rattle.frame.specs.Length.{possible, data_bytes, data_of}
use Rattle.frame.specs.Tables.{id_bits, id_to_send}
use Rattle.to_send.specs.ToSend.{is_extended, data_from, header_to_send, standard_header, extended_header, right_length, message_of}
use Rattle.frame.proofs.Parts.{third_bit, last_bit, id_back, code_fits, id_fits, id_bits_lt, id_bits_back, header_path}

-- "A message to send is tag, identifier (2 or 4 bytes), length code, data."
abbrev pub written : ℕ → Header → List ℕ → List ℕ
written tag h payload = tag ∷ (take (id_to_send h).count (id_to_send h).bytes ++ h.code ∷ payload)

module _ (tag id code : ℕ) (r : Bool) (payload : List ℕ) where
  abbrev header : Bool → Header
  header e = record { id = id; extended = e; remote = r; code = code }

  f≤1 : flag r ≤ 1
  f≤1 = flag_le r

  -- Table 2b
  extended_back : possible (header true) ≡ true → header_to_send (written tag (header true) payload) ≡ header true
  unfolding id_to_send header_to_send
  extended_back ok =
      rw (flag_back true _ (third_bit n 1 1 (flag r) (lit≤ tt) (lit≤ tt) f≤1))
      (header_path
      (extended_header (bits 28 21 n) (bits 20 18 n * 32 + 16 + 8 + bits 17 15 n) (bits 14 7 n) (bits 6 0 n * 2 + flag r) code)
      (header true)
      (id_back n 1 1 (flag r) (lit≤ tt) (lit≤ tt) f≤1 (id_bits_lt (header true) ok) ∙ id_bits_back (header true) ok)
      refl
      (flag_back r _ (last_bit n 1 1 (flag r) (lit≤ tt) (lit≤ tt) f≤1))
      (mod-eq_of_lt (omega (arith, code_fits (header true) ok))))
    where
      n : ℕ
      n = id_bits (header true)

  -- Table 2a: three bits of the identifier, RTR, IDE
  module _ (upper f : ℕ) (hu : upper < 8) (hf : f ≤ 1) where
    standard_kind : bit 3 (upper * 32 + f * 16) ≡ 0
    standard_kind = omega arith

    standard_remote : bit 4 (upper * 32 + f * 16) ≡ f
    standard_remote = omega arith

    standard_upper : bits 7 5 (upper * 32 + f * 16) ≡ upper
    standard_upper = omega arith

  standard_id : id < 2 ^ 11 → bits 28 21 (id % 2 ^ 11 * 2 ^ 18) * 2 ^ 3 + bits 20 18 (id % 2 ^ 11 * 2 ^ 18) ≡ id
  standard_id h = omega arith

  standard_back : possible (header false) ≡ true → header_to_send (written tag (header false) payload) ≡ header false
  unfolding id_to_send header_to_send id_bits
  standard_back ok =
      rw (flag_back false _ (standard_kind upper (flag r) small f≤1))
      (header_path (standard_header (bits 28 21 (id_bits (header false))) (upper * 32 + flag r * 16) code) (header false)
      (rw (standard_upper upper (flag r) small f≤1) (standard_id (id_fits (header false) ok)))
      refl
      (flag_back r _ (standard_remote upper (flag r) small f≤1))
      (mod-eq_of_lt (omega (arith, code_fits (header false) ok))))
    where
      upper : ℕ
      upper = bits 20 18 (id_bits (header false))

      small : upper < 8
      small = mod-lt (id_bits (header false) / 2 ^ 18) (lit< tt)

  back : (e : Bool) → possible (header e) ≡ true → header_to_send (written tag (header e) payload) ≡ header e
  back true ok = extended_back ok
  back false ok = standard_back ok

pub header_to_send_back : (tag : ℕ) (h : Header) (payload : List ℕ) → possible h ≡ true → header_to_send (written tag h payload) ≡ h
header_to_send_back tag h payload ok = back tag h.id h.code h.remote payload h.extended ok

-- ---- the whole message

kind_of : (s : List ℕ) → (header_to_send s).extended ≡ is_extended s
unfolding header_to_send
kind_of s = go (is_extended s) _ _ refl refl
  where
    go : (t : Bool) (x y : Header) → x.extended ≡ true → y.extended ≡ false → (pick t x y).extended ≡ t
    go true x y p q = p
    go false x y p q = q

module _ (tag : ℕ) (h : Header) (payload : List ℕ) where
  after : drop (pick h.extended 6 4) (written tag h payload) ≡ payload
  unfolding id_to_send
  after = go h.extended
    where
      go : (e : Bool) → drop (pick e 6 4) (written tag (header tag h.id h.code h.remote payload e) payload) ≡ payload
      go true = refl
      go false = refl

  long : length (written tag h payload) ≡ pick h.extended 6 4 + length payload
  unfolding id_to_send
  long = go h.extended
    where
      go : (e : Bool) → length (written tag (header tag h.id h.code h.remote payload e) payload) ≡ pick e 6 4 + length payload
      go true = omega arith
      go false = omega arith

  module _ (ok : possible h ≡ true) (enough : data_bytes h ≤ length payload) (room : length payload ≤ 8) where
    from : data_from (written tag h payload) ≡ pick h.extended 6 4
    from =
        ap (λ (t : Bool). pick t 6 4)
        (sym (kind_of (written tag h payload)) ∙ ap (λ (x : Header). x.extended) (header_to_send_back tag h payload ok))

    right : right_length (written tag h payload) ≡ true
    unfolding right_length
    right =
        rw (
          header_to_send_back tag h payload ok,
          from,
          long,
          le-leb (pick h.extended 6 4 + data_bytes h) (pick h.extended 6 4 + length payload) (omega arith),
        )
        (le-leb (pick h.extended 6 4 + length payload) (pick h.extended 6 4 + 8) (omega arith))

    pub message_back : message_of (written tag h payload) ≡ Some (record { tag = tag; header = h; bytes = data_of h payload })
    unfolding message_of
    message_back = rw (right, header_to_send_back tag h payload ok, from, after)
