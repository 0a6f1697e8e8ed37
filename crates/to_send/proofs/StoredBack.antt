-- What the transmit FIFO keeps of a message has its header and its data, for the arrival in loopback. Assumes nothing.
use mathlib.Core.Path.{◌≡◌, refl}
use mathlib.Core.Bool.{true}
use Rattle.frame.specs.Length.{possible, data_of}
use Rattle.frame.specs.Tables.{id_as_read}
use Rattle.frame.specs.Received.{received, header_in, data_in}
use Rattle.frame.proofs.ReadBack.{header_back}
use Rattle.to_send.specs.declared.ToSend.{ToSend}
use Rattle.to_send.specs.ToSend.{stored}

module _ (m : ToSend) where
  pub stored_header : possible m.header ≡ true → header_in (stored m) ≡ m.header
  unfolding stored received id_as_read header_in
  stored_header ok = header_back m.header m.bytes 0 0 ok

  pub stored_data : data_in (stored m) ≡ data_of m.header m.bytes
  unfolding stored received id_as_read
  stored_data = refl
