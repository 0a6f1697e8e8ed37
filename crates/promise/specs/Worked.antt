-- 01's worked numbers that are marked P, as one table: what the rules give, and what 01 has. Numbers in bytes are
-- lists.
use Rattle.std.specs.Prelude.{◌≡◌, Bool, true, false, List, [], ◌∷◌, map, ℕ, take, replicate}
use Rattle.base.specs.Pick.{pick, flag}
use Rattle.counters.specs.declared.Counters.{Counters}
use Rattle.counters.specs.Rules.{zeroed, with_rec, with_tec, receive_error, good_frame, transmit_error, completed}
use Rattle.levels.specs.Levels.{errw, errp}
use Rattle.frame.specs.Length.{data_length}
use Rattle.frame.specs.Tables.{id_to_send}
use Rattle.filter.specs.Hits.{hits, filhit, how_many}
use Rattle.chip.specs.Parts.{with_time}
use Rattle.chip.specs.State.{fresh, mode_of, initialization}
use Rattle.changed.specs.Changed.{ticked}

-- the identifier's bytes, as 0x12 has them
abbrev pub bytes_of : ℕ → Bool → List ℕ
bytes_of id extended =
    let to_send = id_to_send (record { id = id; extended = extended; remote = false; code = 0 }) in
    take to_send.count to_send.bytes

-- standard 0x123 with two data bytes, and the same with one bit of the identifier off
abbrev pub frame : List ℕ
frame = 0x24 ∷ 0x60 ∷ 0 ∷ 0 ∷ 0xAA ∷ 0x55 ∷ []

abbrev pub stranger : List ℕ
stranger = 0x24 ∷ 0x40 ∷ 0 ∷ 0 ∷ 0xAA ∷ 0x55 ∷ []

-- where these filters match the frame, and no other: the set, FILHIT, and how many
abbrev pub hit_of : List Bool → List ℕ
hit_of matching =
    let set = hits (map (λ b. pick b frame stranger) matching) (replicate 8 (replicate 6 0xFF)) frame in
    set ∷ filhit set ∷ how_many set ∷ []

abbrev pub rec_at : ℕ → Counters
rec_at n = with_rec zeroed n

abbrev pub tec_at : ℕ → Counters
tec_at n = with_tec zeroed n

-- REC, then ERRW and ERRP
abbrev pub rec_shown : Counters → List ℕ
rec_shown c = c.rec ∷ flag (errw c) ∷ flag (errp c) ∷ []

-- TEC, then bus off
abbrev pub tec_shown : Counters → List ℕ
tec_shown c = c.tec ∷ flag c.busoff ∷ []

abbrev pub worked : List (List ℕ × List ℕ)
worked =
    -- "length code 0: 0 bytes; 8: 8; 9: 8; 15: 8"
    (map data_length (0 ∷ 8 ∷ 9 ∷ 15 ∷ []), 0 ∷ 8 ∷ 8 ∷ 8 ∷ []) ∷
    -- "standard 0x123: 24 60"; "extended 0x12345678: 91 B8 AC F0"
    (bytes_of 0x123 false, 0x24 ∷ 0x60 ∷ []) ∷
    (bytes_of 0x12345678 true, 0x91 ∷ 0xB8 ∷ 0xAC ∷ 0xF0 ∷ []) ∷
    -- "filters 2 and 5 match: FILHIT 1010; only 7: 1111; none: 0000", with the set before it and behind it how many
    (hit_of (false ∷ false ∷ true ∷ false ∷ false ∷ true ∷ false ∷ false ∷ []), 0x24 ∷ 0b1010 ∷ 2 ∷ []) ∷
    (hit_of (false ∷ false ∷ false ∷ false ∷ false ∷ false ∷ false ∷ true ∷ []), 0x80 ∷ 0b1111 ∷ 1 ∷ []) ∷
    (hit_of (replicate 8 false), 0x00 ∷ 0b0000 ∷ 0 ∷ []) ∷
    -- "REC 95, receive error: 96, ERRW"; "127: 128, passive"; "128, good frame: 119"
    (rec_shown (receive_error (rec_at 95)), 96 ∷ 1 ∷ 0 ∷ []) ∷
    (rec_shown (receive_error (rec_at 127)), 128 ∷ 0 ∷ 1 ∷ []) ∷
    (rec_shown (good_frame (rec_at 128)), 119 ∷ 1 ∷ 0 ∷ []) ∷
    -- "TEC 247, counted error: 255, not bus off; 248: bus off"; "TEC 0, completed: 0"
    (tec_shown (transmit_error (tec_at 247)), 255 ∷ 0 ∷ []) ∷
    (tec_shown (transmit_error (tec_at 248)), 255 ∷ 1 ∷ []) ∷
    (tec_shown (completed (tec_at 0)), 0 ∷ 0 ∷ []) ∷
    -- "MODE 111 is initialization"; "time tag 65535, one tick: 0"
    (mode_of 0b11100000 ∷ [], initialization ∷ []) ∷
    ((ticked (with_time fresh 65535) 1).time ∷ [], 0 ∷ []) ∷
    []

abbrev pub Worked : Type 0
Worked = map (λ w. w.0) worked ≡ map (λ w. w.1) worked
