-- What a host reads in the sixteen bytes is what arrived: so two frames that differ in identifier, kind, remote,
-- length code, data, time tag or FILHIT2..0 have different bytes. Assumes nothing.
use mathlib.Core.Path.{◌≡◌, refl, ap, sym, ◌∙◌}
use mathlib.Core.Bool.{Bool, true}
use mathlib.Core.List.{List}
use Prim.Native.Nat.{ℕ, ◌+◌, ◌*◌, ◌/◌, ◌%◌, ◌^◌}
use native.Mathlib.Nat.{mod-eq_of_lt}
use native.Mathlib.Omega.{arith}
use Rattle.base.specs.Bit.{bits, is_set}
use Rattle.base.specs.Pick.{pick, flag}
use Rattle.base.proofs.Booleans.{flag_le, flag_back}
use Rattle.frame.specs.declared.Header.{Header}
use Rattle.frame.specs.Length.{possible, data_of}
use Rattle.frame.specs.Tables.{id_bits, id_from, id_as_read}
use Rattle.frame.specs.Received.{received, header_in, time_in, filter_in, data_in}
use Rattle.frame.proofs.Parts.{third_bit, last_bit, id_back, code_fits, id_bits_lt, id_bits_back, header_path}

module _ (h : Header) (bytes : List ℕ) (time filhit : ℕ) where
  pub time_back : time_in (received h bytes time filhit) ≡ time
  unfolding received
  time_back = omega arith

  pub filter_back : filter_in (received h bytes time filhit) ≡ filhit % 8
  unfolding received
  filter_back = omega arith

  pub data_back : data_in (received h bytes time filhit) ≡ data_of h bytes
  unfolding received id_as_read
  data_back = refl

  module _ (ok : possible h ≡ true) where
    abbrev n : ℕ
    n = id_bits h

    abbrev ide : ℕ
    ide = flag h.extended

    abbrev rtr : ℕ
    rtr = flag h.remote

    abbrev read : ℕ
    read = id_from (bits 28 21 n) (bits 20 18 n * 32 + ide * 16 + ide * 8 + bits 17 15 n) (bits 14 7 n) (bits 6 0 n * 2 + rtr)

    kind_back : is_set 3 (bits 20 18 n * 32 + ide * 16 + ide * 8 + bits 17 15 n) ≡ h.extended
    kind_back = flag_back h.extended _ (third_bit n ide ide rtr (flag_le h.extended) (flag_le h.extended) (flag_le h.remote))

    remote_back : is_set 0 (bits 6 0 n * 2 + rtr) ≡ h.remote
    remote_back = flag_back h.remote _ (last_bit n ide ide rtr (flag_le h.extended) (flag_le h.extended) (flag_le h.remote))

    read_back : read ≡ n
    read_back = id_back n ide ide rtr (flag_le h.extended) (flag_le h.extended) (flag_le h.remote) (id_bits_lt h ok)

    pub header_back : header_in (received h bytes time filhit) ≡ h
    unfolding received id_as_read header_in
    header_back =
        header_path (header_in (received h bytes time filhit)) h
        (ap (λ (t : Bool). pick t read (read / 2 ^ 18)) kind_back ∙ ap (λ (m : ℕ). pick h.extended m (m / 2 ^ 18)) read_back ∙ id_bits_back h ok)
        kind_back
        remote_back
        (mod-eq_of_lt (omega (arith, code_fits h ok)))

-- ---- so the bytes tell frames apart

pub record Same (h h' : Header) (b b' : List ℕ) (t t' f f' : ℕ) : Type 0 where
  pub header : h ≡ h'
  pub eight : data_of h b ≡ data_of h' b'
  pub time : t ≡ t'
  pub filter : f % 8 ≡ f' % 8

pub received_once : (h h' : Header) (b b' : List ℕ) (t t' f f' : ℕ) → possible h ≡ true → possible h' ≡ true
    → received h b t f ≡ received h' b' t' f' → Same h h' b b' t t' f f'
received_once h h' b b' t t' f f' ok ok' e = record {
  header = sym (header_back h b t f ok) ∙ ap header_in e ∙ header_back h' b' t' f' ok';
  eight = sym (data_back h b t f) ∙ ap data_in e ∙ data_back h' b' t' f';
  time = sym (time_back h b t f) ∙ ap time_in e ∙ time_back h' b' t' f';
  filter = sym (filter_back h b t f) ∙ ap filter_in e ∙ filter_back h' b' t' f';
}
