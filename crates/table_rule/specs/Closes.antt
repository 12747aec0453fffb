-- The closed changes of a pass, as they lie in memory: our own.
use Rattle.std.specs.Prelude.{ℕ}
use Rattle.sock_card.specs.Words.{packed}
use Rattle.chain_book.specs.declared.book.Act.{Act}
use Rattle.chain_book.specs.declared.book.Act.TheVariants as acts
use Rattle.chain_book.specs.declared.book.Change.{Change as Kept}
use Rattle.table_rule.specs.Words.{words_of}
use Rattle.table_rule.specs.declared.view.Change.{Change}

abbrev pub number_of : Act → ℕ
number_of acts.Hash = 1
number_of acts.Unhash = 0

-- the change that lies there, as the pass knows it
abbrev pub change_of : Kept → Change
change_of c =
    record {
      kind = number_of c.act;
      bucket = c.bucket;
      slot = c.slot;
      card = words_of (packed c.card);
      begins = c.begin;
      ends = c.end;
    }
