-- What a read past the end of a list of lines gives.
use Rattle.std.proofs.Common.{None}
use Rattle.sock_card.specs.declared.card.Kind.TheVariants as kinds
use Rattle.book_audit.specs.declared.printed.PrintedLife.{PrintedLife}

abbrev pub no_life : PrintedLife
no_life = record {
  bucket = 0;
  slot = 0;
  card = record { local = 0; lport = 0; remote = 0; rport = 0; dev = 0; net = 0; kind = kinds.Full; name = 0; extra = 0; mark = 0 };
  hash = record { begin = 0; end = 0 };
  unhash = None;
}
