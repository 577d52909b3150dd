-- MORE EXAMPLES: all that is said of them. Assumes nothing.
use Rattle.worked_examples.specs.More.{MoreSaid}
use Rattle.worked_examples.proofs.Words.{words}
use Rattle.worked_examples.proofs.Readings.{sheets_read, parts_put, plans_read, sights_seen}
use Rattle.worked_examples.proofs.Nestings.{nestings_found, settle_lent, still_a}
use Rattle.worked_examples.proofs.Bytes.{example_bytes, more_bytes, within, beyond}

pub more_said : MoreSaid
more_said = record {
  words = words;
  sheets_read = sheets_read;
  parts_put = parts_put;
  plans_read = plans_read;
  runs = sights_seen;
  nestings = nestings_found;
  lent = settle_lent;
  still = still_a;
  example_bytes = example_bytes;
  more_bytes = more_bytes;
  within = within;
  beyond = beyond;
}
