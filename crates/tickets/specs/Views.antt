-- What a pass knows, and how each call changes it: our own.
use Rattle.std.specs.Prelude.{ℕ, ◌+◌, ◌-◌, [], ◌∷◌, ◌++◌, max}
use Rattle.tickets.specs.declared.view.TicketView.{TicketView}

-- the parts of the right to know what all passes drew
abbrev pub all_parts : ℕ
all_parts = 16384

-- the first pass of a table with so many numbers, which has all parts
abbrev pub first : ℕ → TicketView
first n = record { limit = n; parts = all_parts; seen = 0; drawn = []; vain = [] }

-- one that is split off: it has drawn nothing, and knows what the other has seen
abbrev pub newcomer : ℕ → ℕ → TicketView
newcomer limit seen = record { limit = limit; parts = 1; seen = seen; drawn = []; vain = [] }

-- one that was joined to another
abbrev pub nobody : TicketView
nobody = record { limit = 0; parts = 0; seen = 0; drawn = []; vain = [] }

-- after another was split off
abbrev pub cut : TicketView → TicketView
cut v = record v { parts = v.parts - 1 }

-- after another was joined
abbrev pub joined : TicketView → TicketView → TicketView
joined v w =
    record v {
      parts = v.parts + w.parts;
      seen = max v.seen w.seen;
      drawn = v.drawn ++ w.drawn;
      vain = v.vain ++ w.vain;
    }

-- after it drew the number x
abbrev pub drawing : TicketView → ℕ → TicketView
drawing v x = record v { seen = x + 1; drawn = v.drawn ++ x ∷ [] }

-- after it drew the number x in vain
abbrev pub missing : TicketView → ℕ → TicketView
missing v x = record v { seen = x + 1; vain = v.vain ++ x ∷ [] }
