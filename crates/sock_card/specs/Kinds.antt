-- Whether two kinds of cards are the same: our own.
use Rattle.std.specs.Prelude.{Bool, true, false}
use Rattle.sock_card.specs.declared.card.Kind.{Kind}
use Rattle.sock_card.specs.declared.card.Kind.TheVariants as kinds

abbrev pub same_kind : Kind → Kind → Bool
same_kind kinds.Full kinds.Full = true
same_kind kinds.TimeWait kinds.TimeWait = true
same_kind kinds.Listen kinds.Listen = true
same_kind kinds.Request kinds.Request = true
same_kind _ _ = false
