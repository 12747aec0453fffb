-- What clap finds in words that it takes: `run` or `audit`, or `make` or `race` with two numbers in range.
use Rattle.std.proofs.Common.{◌≡◌, Bool, true, false, cond, List, [], ◌∷◌, Option, Some, None, refl, codes, drop}
use Rattle.std.specs.Prelude.{find, is_some}
use Rattle.clap.specs.Kinds.{Kinds, or_else}
use Rattle.clap.specs.Walk.{Held, settled, Row, Text, answers_to, finished, nothing_held, rows_after, stop_after, walk}
use Rattle.clap.specs.Simple.{App, Shape, built, built_leaf, entered, inherited, label_of, names_of, subcommand_of}
use Rattle.clap.specs.Faults.{check_fault, defaults_fault, entered_fault, fault_of, settle_fault}
use Rattle.inet_tool.specs.Words.{audit_app, inet_app, run_app}
use Rattle.inet_tool.proofs.MakeWords.{Found, first_none, found_by, make, second_none, some_kind}
use Rattle.inet_tool.proofs.RaceWords.{Found as RaceFound, found_by as race_found_by, race}

-- `run` as it is built
abbrev pub run : Shape
run = built_leaf (inherited inet_app.top run_app.top)

-- `audit`
abbrev pub audit : Shape
audit = built_leaf (inherited inet_app.top audit_app.top)

-- a search of four finds none or one of the four
data FoundOf {X : Type 0} (found : Option X) (w x y z : X) : Type 0 where
  nothing : found ≡ None → FoundOf found w x y z
  first : found ≡ Some w → FoundOf found w x y z
  second : found ≡ Some x → FoundOf found w x y z
  third : found ≡ Some y → FoundOf found w x y z
  fourth : found ≡ Some z → FoundOf found w x y z

find_four : {X : Type 0} (test : X → Bool) (w x y z : X) → FoundOf (find test (w ∷ x ∷ y ∷ z ∷ [])) w x y z
find_four {X} test w x y z = go (test w) (test x) (test y) (test z)
  where
    go : (a b c d : Bool) → FoundOf (cond a (Some w) (cond b (Some x) (cond c (Some y) (cond d (Some z) None)))) w x y z
    go true b c d = first refl
    go false true c d = second refl
    go false false true d = third refl
    go false false false true = fourth refl
    go false false false false = nothing refl

-- the subcommand that is found: `run` or `audit`, or `make` or `race` with its numbers
pub data Met (met : Option (Text × List Row)) : Type 0 where
  runs : (rows : List Row) → met ≡ Some (codes "run", rows) → Met met
  makes : (rows : List Row) → met ≡ Some (codes "make", rows) → Found rows → Met met
  races : (rows : List Row) → met ≡ Some (codes "race", rows) → RaceFound rows → Met met
  audits : (rows : List Row) → met ≡ Some (codes "audit", rows) → Met met

-- where the walk stopped at a subcommand that takes the words after it, and at one of the four where one is wanted
met_at : (rows : List Row) (stop : Option (Text × List Text)) → entered_fault (built inet_app) stop ≡ []
    → check_fault (built inet_app).top rows (is_some (entered (built inet_app) stop)) ≡ [] → Met (entered (built inet_app) stop)
met_at rows None below check = some_kind _ _ check
met_at rows (Some p) below check = elim (find_four (λ s. answers_to p.0 (label_of s)) run make race audit) [
  | nothing none ↦ some_kind _ _ (rw none at check)
  | first is ↦ runs (rows_after run.rules [] p.1) (rw is refl)
  | second is ↦ makes (rows_after make.rules [] p.1) (rw is refl) (found_by p.1 (rw is at below))
  | third is ↦ races (rows_after race.rules [] p.1) (rw is refl) (race_found_by p.1 (rw is at below))
  | fourth is ↦ audits (rows_after audit.rules [] p.1) (rw is refl)
]

-- words that clap takes name one of the four
pub met_by : (words : List Text) → fault_of inet_app words ≡ [] → Met (subcommand_of inet_app words)
met_by words none =
    let app : App = built inet_app in
    let held : Held = (walk app.top.rules (names_of app) nothing_held (drop 1 words)).held in
    let stop : Option (Text × List Text) = stop_after app.top.rules (names_of app) (drop 1 words) in
    let check : Kinds = check_fault app.top (finished app.top.rules held) (is_some (entered app stop)) in
    let values : Kinds = defaults_fault (settled app.top.rules held).rows app.top.rules in
    let rest : Kinds = or_else (settle_fault app.top.rules false held) (or_else values check) in
    let below : or_else (entered_fault app stop) rest ≡ [] = second_none _ _ none in
    let last : or_else values check ≡ [] = second_none (settle_fault app.top.rules false held) _ (second_none (entered_fault app stop) rest below) in
    met_at (finished app.top.rules held) stop (first_none (entered_fault app stop) rest below) (second_none values check last)
