-- One result for each public function of base, refusal, commands, frame, to_send and filter. The first line of each
-- names the contract that the function's theorem states (`λ _` passes over the model's resources), the second the
-- definition that it equates the result or the lent memory with, as a function of the parameters (`λ _` passes over
-- the lifetimes). `Law` says what it is to leave one result.
use Rattle.std.specs.Prelude.{refl, ◌≤◌, get_or}
use Rattle.std.specs.Coded.{coded_list, coded_ℕ}
use Rattle.base.specs.Bit
use Rattle.base.specs.Pick
use Rattle.base.specs.Put
use Rattle.refusal.specs.Refusal as Numbers
use Rattle.commands.specs.Table
use Rattle.frame.specs.Length
use Rattle.frame.specs.Tables
use Rattle.frame.specs.Received
use Rattle.to_send.specs.ToSend as Sent
use Rattle.filter.specs.Match
use Rattle.filter.specs.Hits
use Rattle.filter.specs.First
use Rattle.base.specs.contracts as base
use Rattle.refusal.specs.contracts.Refusal
use Rattle.commands.specs.contracts as commands
use Rattle.frame.specs.contracts as frame
use Rattle.frame.specs.contracts.Header
use Rattle.to_send.specs.contracts as to_send
use Rattle.to_send.specs.contracts.ToSend
use Rattle.filter.specs.contracts as filter
use Rattle.one.specs.Law.{OneResult}
use Rattle.one.specs.Shapes.{result, result_and, content}

module _ (M : Type 1) where
  -- ---- base
  pub base-flag : OneResult M base.flag.ended (λ _. base.flag.spec)
  base-flag = result_and (λ _. base.flag.clauses) (λ _. Pick.flag) (λ _ r. r ≤ 1) refl

  pub base-at : OneResult M base.at.ended (λ _. base.at.spec)
  base-at = result (λ _. base.at.clauses) (λ _ s i. get_or s.now i 0) refl

  pub base-is_set : OneResult M base.is_set.ended (λ _. base.is_set.spec)
  base-is_set = result (λ _. base.is_set.clauses) (λ _. Bit.is_set) refl

  pub base-put : OneResult M base.put.ended (λ _. base.put.spec)
  base-put =
      content (λ _. base.put.clauses) (coded_list coded_ℕ) (λ _ w. w.1.0) (λ _ v. (tt, (v, tt)))
      (λ _ reply buffer. Put.put_of reply.now buffer.now) refl

  -- ---- refusal
  pub Refusal-number : OneResult M Refusal.number.ended (λ _. Refusal.number.spec)
  Refusal-number = result (λ _. Refusal.number.clauses) (λ _. Numbers.number) refl

  -- ---- commands
  pub commands-find : OneResult M commands.find.ended (λ _. commands.find.spec)
  commands-find = result (λ _. commands.find.clauses) (λ _. Table.lookup Table.rows) refl

  -- ---- frame
  pub frame-data_length : OneResult M frame.data_length.ended (λ _. frame.data_length.spec)
  frame-data_length = result (λ _. frame.data_length.clauses) (λ _. Length.data_length) refl

  pub Header-data_bytes : OneResult M Header.data_bytes.ended (λ _. Header.data_bytes.spec)
  Header-data_bytes = result (λ _. Header.data_bytes.clauses) (λ _. Length.data_bytes) refl

  pub Header-possible : OneResult M Header.possible.ended (λ _. Header.possible.spec)
  Header-possible = result (λ _. Header.possible.clauses) (λ _. Length.possible) refl

  pub Header-data_fits : OneResult M Header.data_fits.ended (λ _. Header.data_fits.spec)
  Header-data_fits = result (λ _. Header.data_fits.clauses) (λ _. Length.data_fits) refl

  pub Header-id_to_send : OneResult M Header.id_to_send.ended (λ _. Header.id_to_send.spec)
  Header-id_to_send = result (λ _. Header.id_to_send.clauses) (λ _. Tables.id_to_send) refl

  pub Header-id_as_read : OneResult M Header.id_as_read.ended (λ _. Header.id_as_read.spec)
  Header-id_as_read = result (λ _. Header.id_as_read.clauses) (λ _. Tables.id_as_read) refl

  pub Header-compared : OneResult M Header.compared.ended (λ _. Header.compared.spec)
  Header-compared = result (λ _. Header.compared.clauses) (λ _. Tables.compared) refl

  pub Header-received : OneResult M Header.received.ended (λ _. Header.received.spec)
  Header-received = result (λ _. Header.received.clauses) (λ _. Received.received) refl

  pub frame-id_from : OneResult M frame.id_from.ended (λ _. frame.id_from.spec)
  frame-id_from = result (λ _. frame.id_from.clauses) (λ _. Tables.id_from) refl

  pub frame-header_in : OneResult M frame.header_in.ended (λ _. frame.header_in.spec)
  frame-header_in = result (λ _. frame.header_in.clauses) (λ _. Received.header_in) refl

  pub frame-data_in : OneResult M frame.data_in.ended (λ _. frame.data_in.spec)
  frame-data_in = result (λ _. frame.data_in.clauses) (λ _. Received.data_in) refl

  -- ---- to_send
  pub to_send-right_length : OneResult M to_send.right_length.ended (λ _. to_send.right_length.spec)
  to_send-right_length = result (λ _. to_send.right_length.clauses) (λ _ s. Sent.right_length s.now) refl

  pub to_send-message_of : OneResult M to_send.message_of.ended (λ _. to_send.message_of.spec)
  to_send-message_of = result (λ _. to_send.message_of.clauses) (λ _ s. Sent.message_of s.now) refl

  pub ToSend-stored : OneResult M ToSend.stored.ended (λ _. ToSend.stored.spec)
  ToSend-stored = result (λ _. ToSend.stored.clauses) (λ _. Sent.stored) refl

  -- ---- filter
  pub filter-matches : OneResult M filter.matches.ended (λ _. filter.matches.spec)
  filter-matches = result (λ _. filter.matches.clauses) (λ _. Match.matches) refl

  pub filter-hits : OneResult M filter.hits.ended (λ _. filter.hits.spec)
  filter-hits = result (λ _. filter.hits.clauses) (λ _. Hits.hits) refl

  pub filter-filhit : OneResult M filter.filhit.ended (λ _. filter.filhit.spec)
  filter-filhit = result (λ _. filter.filhit.clauses) (λ _. Hits.filhit) refl

  pub filter-how_many : OneResult M filter.how_many.ended (λ _. filter.how_many.spec)
  filter-how_many = result (λ _. filter.how_many.clauses) (λ _. Hits.how_many) refl

  pub filter-bit_at : OneResult M filter.bit_at.ended (λ _. filter.bit_at.spec)
  filter-bit_at = result (λ _. filter.bit_at.clauses) (λ _. Match.bit_at_place) refl

  pub filter-first_difference : OneResult M filter.first_difference.ended (λ _. filter.first_difference.spec)
  filter-first_difference = result (λ _. filter.first_difference.clauses) (λ _. First.first_difference) refl
