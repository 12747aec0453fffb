-- What the output shows of a reply: all of it, but of a card that was found its kind and its name alone. Our own.
use Rattle.std.specs.Prelude.{ℕ, ◌+◌, ◌*◌, ◌^◌, None, Some}
use Rattle.flat_list.specs.declared.command.Reply.{Reply}
use Rattle.flat_list.specs.declared.command.Reply.TheVariants as replies
use Rattle.sock_card.specs.declared.card.Card.{Card}
use Rattle.sock_card.specs.declared.card.Kind.{Kind}
use Rattle.sock_script.specs.declared.shown.Brief.{Brief}
use Rattle.sock_script.specs.declared.shown.Brief.TheVariants as briefs

-- a card that says a kind and a name, and nothing else
abbrev pub bare_card : Kind → ℕ → Card
bare_card kind name =
    record { local = 0; lport = 0; remote = 0; rport = 0; dev = 0; net = 0; kind = kind; name = name; extra = 0; mark = 0 }

-- a reply, with no more of a card that was found than its kind and its name
abbrev pub shown : Reply → Reply
shown (replies.Found (Some card)) = replies.Found (Some (bare_card card.kind card.name))
shown reply = reply

-- the reply that is kept so
abbrev pub kept_reply : Brief → Reply
kept_reply briefs.Ok = replies.Ok
kept_reply (briefs.Port port) = replies.Port port
kept_reply (briefs.End end) = replies.End end
kept_reply briefs.TimeWait = replies.TimeWait
kept_reply (briefs.NoSlot owned held) = replies.NoSlot owned held
kept_reply (briefs.Count high low) = replies.Count (high * 2 ^ 32 + low)
kept_reply (briefs.Found kind high low) = replies.Found (Some (bare_card kind (high * 2 ^ 32 + low)))
kept_reply briefs.None = replies.Found None
kept_reply briefs.Skip = replies.Skip
kept_reply briefs.Short = replies.Short
kept_reply briefs.Ebadf = replies.Ebadf
kept_reply briefs.Einval = replies.Einval
kept_reply briefs.Eisconn = replies.Eisconn
kept_reply briefs.Eaddrinuse = replies.Eaddrinuse
kept_reply briefs.Eaddrnotavail = replies.Eaddrnotavail
kept_reply briefs.Emfile = replies.Emfile
kept_reply (briefs.Enfile owned held) = replies.Enfile owned held
