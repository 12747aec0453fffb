-- What passes know, and how each call changes it: our own.
--
-- To be read from the beginning.
use Rattle.std.specs.Prelude.{ℕ, ◌+◌, ◌-◌, true, false, List, [], ◌∷◌, ◌++◌}
use Rattle.reuseport_group.specs.Words.{stores}
use Rattle.reuseport_group.specs.declared.view.Stored.{Stored}
use Rattle.reuseport_group.specs.declared.view.GroupView.{GroupView}

-- the parts of the right to know the whole
abbrev pub all_parts : ℕ
all_parts = 16384

-- the first passes of a table, which have all parts and know the moment at which nothing was stored
abbrev pub first : GroupView
first = record { parts = all_parts; sole = true; moments = [] ∷ []; mine = [] }

-- those that are split off, which know these moments
abbrev pub newcomer : List (List Stored) → GroupView
newcomer moments = record { parts = 1; sole = false; moments = moments; mine = [] }

-- those that were joined to others
abbrev pub nobody : GroupView
nobody = record { parts = 0; sole = false; moments = []; mine = [] }

-- after others were split off
abbrev pub cut : GroupView → GroupView
cut v = record v { parts = v.parts - 1; sole = false }

-- after others were joined
abbrev pub joined : GroupView → GroupView → GroupView
joined v w =
    record { parts = v.parts + w.parts; sole = false; moments = v.moments ++ w.moments; mine = v.mine ++ w.mine }

-- after they loaded a word at a moment
abbrev pub looking : GroupView → List Stored → GroupView
looking v now = record v { moments = now ∷ [] }

-- after they stored a word, when this had been stored before
abbrev pub writing : GroupView → List Stored → Stored → GroupView
writing v before e = record v { moments = (e ∷ before) ∷ []; mine = e ∷ v.mine }

-- after they made these stores
abbrev pub storing : GroupView → List (List Stored) → List Stored → GroupView
storing v moments es = record v { moments = moments; mine = es ++ v.mine }

-- after they published a list, up to a moment
abbrev pub publishing : GroupView → List Stored → ℕ → List ℕ → GroupView
publishing v now group list = record v { moments = now ∷ []; mine = stores group list ++ v.mine }
