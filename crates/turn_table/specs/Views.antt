-- What a pass knows, and how each call changes it: our own. The first pass of a table is caller 0, and the k-th that
-- is split off is caller k.
--
-- To be read from the beginning.
use Rattle.std.specs.Prelude.{ℕ, ◌+◌, ◌-◌, List, [], ◌∷◌, ◌++◌, map, length, drop, max}
use Rattle.turn_table.specs.Journals.{placed}
use Rattle.turn_table.specs.declared.note.Note.{Note}
use Rattle.turn_table.specs.declared.view.TurnView.{TurnView}

module _ {E H : Type 0} where
  -- the first pass of a table, with all 16,384 parts
  abbrev pub first : H → TurnView E H
  first home =
      record {
        home = home ∷ [];
        parts = 16384;
        caller = 0;
        splits = 0;
        draws = 0;
        tickets = 0;
        seen = 0;
        loads = [];
        mine = [];
        finds = [];
        at = 0;
        found = [];
        drawn = [];
      }

  -- the one that is split off as the caller of that number
  abbrev pub newcomer : List H → ℕ → ℕ → TurnView E H
  newcomer home caller seen =
      record {
        home = home;
        parts = 1;
        caller = caller;
        splits = 0;
        draws = 0;
        tickets = 0;
        seen = seen;
        loads = [];
        mine = [];
        finds = [];
        at = 0;
        found = [];
        drawn = [];
      }

  -- what a pass has seen, for another: it has no part
  abbrev pub heard : List H → ℕ → TurnView E H
  heard home seen =
      record {
        home = home;
        parts = 0;
        caller = 0;
        splits = 0;
        draws = 0;
        tickets = 0;
        seen = seen;
        loads = [];
        mine = [];
        finds = [];
        at = 0;
        found = [];
        drawn = [];
      }

  -- a pass that was joined
  abbrev pub nobody : TurnView E H
  nobody = record {
    home = [];
    parts = 0;
    caller = 0;
    splits = 0;
    draws = 0;
    tickets = 0;
    seen = 0;
    loads = [];
    mine = [];
    finds = [];
    at = 0;
    found = [];
    drawn = [];
  }

  -- after one more was split off
  abbrev pub cut : TurnView E H → TurnView E H
  cut v = record v { parts = v.parts - 1; splits = v.splits + 1 }

  -- after another was joined
  abbrev pub joined : TurnView E H → TurnView E H → TurnView E H
  joined v w =
      record v {
        parts = v.parts + w.parts;
        tickets = v.tickets + w.tickets;
        seen = max v.seen w.seen;
        loads = v.loads ++ w.loads;
        mine = v.mine ++ w.mine;
        finds = v.finds ++ w.finds;
      }

  -- after the count was seen
  abbrev pub looked : TurnView E H → ℕ → TurnView E H
  looked v n = record v { seen = n; loads = v.loads ++ n ∷ [] }

  -- after the turn of the place i was taken, when the count was n, and this journal found
  abbrev pub taking : TurnView E H → ℕ → ℕ → List (Note E) → TurnView E H
  taking v i n notes =
      record v {
        seen = n;
        finds = v.finds ++ record { place = i; since = n; notes = notes } ∷ [];
        at = i + 1;
        found = notes;
        drawn = [];
      }

  -- after the number n was drawn
  abbrev pub drawing : TurnView E H → ℕ → TurnView E H
  drawing v n = record v { draws = v.draws + 1; tickets = v.tickets + 1; seen = n + 1; drawn = v.drawn ++ n ∷ [] }

  -- after the turn of the place i was given back with these new entries
  abbrev pub giving : TurnView E H → ℕ → List (Note E) → TurnView E H
  giving v i new = record v { mine = v.mine ++ map (placed i) new; at = 0; found = []; drawn = [] }

  -- of the entries of a value that is out, those that weren't found there
  abbrev pub added : TurnView E H → List (Note E) → List (Note E)
  added v notes = drop (length v.found) notes
