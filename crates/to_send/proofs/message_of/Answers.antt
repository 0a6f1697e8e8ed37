-- `to_send::message_of` meets its contract: a right length has the message's own bytes, and those are what is copied.
-- Assumes nothing.
use Rattle.std.proofs.Common.{◌≡◌, true, ◌+◌, ◌-◌, ap, sym, ◌∙◌, arith, drop, length-drop, Some}
use Rattle.base.specs.Bit.{byte}
use Rattle.base.specs.Pick.{pick_yes}
use Rattle.frame.specs.Length.{data_bytes}
use Rattle.frame.proofs.Data.{data_bytes_le, data_put}
use Rattle.to_send.specs.ToSend.{data_from, header_to_send, right_length, message_of}
use Rattle.to_send.proofs.Enough.{data_from_le, enough}
use Rattle.to_send.proofs.message_of.Goals as goal

pub overflow_add-from : goal.overflow_add-from
overflow_add-from c =
    record { fits = omega (arith, data_from_le c.args.s.now, data_bytes_le c.header_to_send-header.result) }

pub slice_bounds-put-end : goal.slice_bounds-put-end
slice_bounds-put-end c =
    let n : c.data_bytes.result ≡ data_bytes (header_to_send c.args.s.now) =
    c.data_bytes.ensures ∙ ap data_bytes c.header_to_send-header.ensures in
    omega (arith, enough c.args.s.now (sym c.if-not-right_length.ensures), n, c.data_from-from.ensures)

pub returns : goal.returns
unfolding message_of
returns c =
    let s = c.args.s.now in
    let f = c.data_from-from.result in
    let m = c.data_bytes.result in
    let right : right_length s ≡ true = sym c.if-not-right_length.ensures in
    let back : f + m - f ≡ m = omega arith in
    pick_yes _ (right_length s) _ _ _ right
    (rw (
      c.put.ensures,
      back,
      c.data_bytes.ensures,
      c.data_from-from.ensures,
      c.header_to_send-header.ensures,
      c.at-tag.ensures,
    )
    (ap (λ l. Some (record { tag = byte s 1; header = header_to_send s; bytes = l }))
    (data_put (header_to_send s) (drop (data_from s) s) (rw (length-drop) (omega (arith, enough s right))))))
