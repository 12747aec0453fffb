-- What stands in a script for a race is in range.
use Rattle.std.proofs.Common.{◌≡◌, ℕ, ◌<◌, ◌≤◌, ◌^◌, true, List, [], ◌∷◌, length, Option, None, Some, unwrap_or, refl, sym, subst, arith, inl, inr}
use Rattle.list_words.specs.Lists.{Each}
use Rattle.list_words.proofs.EachLemmas.{each_append}
use Rattle.chain_book.specs.declared.shape.Shape.{Shape}
use Rattle.flat_list.specs.declared.header.Range.{Range}
use Rattle.flat_list.specs.declared.command.Command.{Command}
use Rattle.flat_list.specs.declared.script.CapturePlace.{CapturePlace}
use Rattle.flat_list.specs.Script.{Script, IsSmall}
use Rattle.race_book.proofs.Checks.{and_left}
use Rattle.sock_script.specs.declared.parse.Mode.TheVariants as modes
use Rattle.sock_script.specs.declared.line.Line.{Line}
use Rattle.sock_script.specs.declared.line.Line.TheVariants as lines
use Rattle.sock_script.specs.Words.{lines_of, words_of}
use Rattle.sock_script.specs.Forms.{CommandFits, HasForm, DeviceFits, NamespaceFits}
use Rattle.sock_script.specs.Grammar.{IsScript, capture_device, capture_namespace, default_range, default_shape, given_label, is_allowed}
use Rattle.sock_script.specs.Reading.{Draft, Follows, MayCome, ReadsLine, Reads, header_of, is_new, nothing_yet, past, script_of, with_command}
use Rattle.sock_script.proofs.LineCases.{line_cases}
use Rattle.sock_script.proofs.Reprinted.{read_as}
use Rattle.sock_script.proofs.Small.{small_script}
use Rattle.chain_book.specs.Shapes.{ShapeFits}
use Rattle.race_laws.proofs.audits.Owners.{RangeFits}

-- a fact of what is there, if it is
abbrev pub OfSome : {A : Type 0} → (A → Type 0) → Option A → Type 0
OfSome P None = Unit {0}
OfSome P (Some x) = P x

abbrev pub PlaceFits : CapturePlace → Type 0
PlaceFits place = (place.dev < 2 ^ 16) × (place.net < 16)

-- a command of a race, with what stands in it in range
pub record RaceCommand (c : Command) : Type 0 where
  pub fits : CommandFits c
  pub allowed : is_allowed modes.Race c ≡ true

record DraftFits (d : Draft) : Type 0 where
  table : OfSome ShapeFits d.table
  range : OfSome RangeFits d.range
  seed : OfSome (λ (seed : ℕ). seed < 2 ^ 32) d.seed
  sections : Each (Each RaceCommand) d.sections
  capture : OfSome PlaceFits d.capture

with_command_fits : (c : Command) (sections : List (List Command)) → RaceCommand c → Each (Each RaceCommand) sections → Each (Each RaceCommand) (with_command c sections)
with_command_fits c [] r h = tt
with_command_fits c (s ∷ []) r h = (each_append RaceCommand s (c ∷ []) h.0 (r, tt), tt)
with_command_fits c (s ∷ t ∷ rest) r h = (h.0, with_command_fits c (t ∷ rest) r h.1)

may_come : (sections : List (List Command)) (c : Command) → MayCome modes.Race sections c → is_allowed modes.Race c ≡ true
may_come [] c m = absurd m
may_come (s ∷ []) c m = and_left (is_allowed modes.Race c) (is_new (given_label c) s) m
may_come (s ∷ t ∷ rest) c m = may_come (t ∷ rest) c m

pub device_below : (dev : Option ℕ) → DeviceFits dev → unwrap_or dev 0 < 2 ^ 16
device_below None f = omega arith
device_below (Some dev) f = f.1

pub namespace_below : (net : Option ℕ) → NamespaceFits net → unwrap_or net 0 < 16
namespace_below None f = omega arith
namespace_below (Some net) f = f

after_form : (old new : Draft) (text : List ℕ) (line : Line) → HasForm (words_of text) line → Follows modes.Race old line new → DraftFits old → DraftFits new
after_form old new text lines.PassedOver form h w = subst DraftFits (sym h) w
after_form old new text (lines.Table shape) form h w =
    subst DraftFits (sym h.1) (record { table = form.1; range = w.range; seed = w.seed; sections = w.sections; capture = w.capture })
after_form old new text (lines.Range range) form h w =
    subst DraftFits (sym h.1) (record { table = w.table; range = record { order = omega (arith, form.1.order); high = form.1.high }; seed = w.seed; sections = w.sections; capture = w.capture })
after_form old new text (lines.Reserved reserved) form h w =
    subst DraftFits (sym h.1) (record { table = w.table; range = w.range; seed = w.seed; sections = w.sections; capture = w.capture })
after_form old new text (lines.Seed seed) form h w =
    subst DraftFits (sym h.1) (record { table = w.table; range = w.range; seed = form.1; sections = w.sections; capture = w.capture })
after_form old new text (lines.Offset offset) form h w =
    subst DraftFits (sym h.1) (record { table = w.table; range = w.range; seed = w.seed; sections = w.sections; capture = w.capture })
after_form old new text (lines.TimeWaitReuse reuse) form h w =
    subst DraftFits (sym h.1) (record { table = w.table; range = w.range; seed = w.seed; sections = w.sections; capture = w.capture })
after_form old new text (lines.Section number) form h w =
    subst DraftFits (sym h.1) (record { table = w.table; range = w.range; seed = w.seed; sections = each_append (Each RaceCommand) old.sections ([] ∷ []) w.sections (tt, tt); capture = w.capture })
after_form old new text (lines.Capture dev net) form h w =
    subst DraftFits (sym h) (record { table = w.table; range = w.range; seed = w.seed; sections = w.sections; capture = (device_below dev form.1, namespace_below net form.2) })
after_form old new text (lines.Command c) form h w =
    subst DraftFits (sym h.1) (record {
      table = w.table;
      range = w.range;
      seed = w.seed;
      sections = with_command_fits c old.sections (record { fits = form.1; allowed = may_come old.sections c h.0 }) w.sections;
      capture = w.capture;
    })

passed : (old : Draft) (text : List ℕ) → DraftFits old → DraftFits (past old text)
passed old text w = record { table = w.table; range = w.range; seed = w.seed; sections = w.sections; capture = w.capture }

after_line : (old new : Draft) (text : List ℕ) → ReadsLine modes.Race old text new → DraftFits old → DraftFits new
after_line old new text h w =
    elim (line_cases modes.Race old text new h) as (λ _. DraftFits new) [
      | inl r ↦ after_form (past old text) new text r.line r.form r.follows (passed old text w)
      | inr same ↦ subst DraftFits (sym same.2) w
    ]

after_lines : (old new : Draft) (texts : List (List ℕ)) → Reads modes.Race old texts new → DraftFits old → DraftFits new
after_lines old new [] h w = subst DraftFits (sym h) w
after_lines old new (text ∷ texts) h w = after_lines h.0 new texts h.2 (after_line old h.0 text h.1 w)

shape_told : (o : Option Shape) (d : Shape) → OfSome ShapeFits o → ShapeFits d → ShapeFits (unwrap_or o d)
shape_told None d f g = g
shape_told (Some s) d f g = f

range_told : (o : Option Range) (d : Range) → OfSome RangeFits o → RangeFits d → RangeFits (unwrap_or o d)
range_told None d f g = g
range_told (Some r) d f g = f

seed_told : (o : Option ℕ) → OfSome (λ (seed : ℕ). seed < 2 ^ 32) o → unwrap_or o 0 < 2 ^ 32
seed_told None f = omega arith
seed_told (Some seed) f = f

device_told : (o : Option CapturePlace) → OfSome PlaceFits o → capture_device o < 2 ^ 16
device_told None f = omega arith
device_told (Some place) f = f.0

namespace_told : (o : Option CapturePlace) → OfSome PlaceFits o → capture_namespace o < 16
namespace_told None f = omega arith
namespace_told (Some place) f = f.1

-- what stands in a script for a race
pub record ScriptTold (script : Script) : Type 0 where
  pub shape : ShapeFits script.header.shape
  pub range : RangeFits script.header.range
  pub seed : script.header.seed < 2 ^ 32
  pub commands : Each (Each RaceCommand) script.sections
  pub device : capture_device script.capture < 2 ^ 16
  pub net : capture_namespace script.capture < 16
  pub small : IsSmall script

pub script_told : (input : List ℕ) (script : Script) → length input ≤ 2 ^ 24 → IsScript modes.Race input script → ScriptTold script
script_told input script few spelled =
    let is = read_as modes.Race (lines_of input) script spelled in
    let d : Draft = is.0 in
    let f : DraftFits d = after_lines nothing_yet d (lines_of input) is.1 (record { table = tt; range = tt; seed = tt; sections = tt; capture = tt }) in
    let small : IsSmall script = small_script modes.Race input d script few is.1 is.2 in
    let range : RangeFits (header_of d).range = let r = range_told d.range default_range f.range (record { order = omega arith; high = omega arith }) in record { order = r.order; high = r.high } in
    let shape : ShapeFits (header_of d).shape = shape_told d.table default_shape f.table (record {
      slots = (omega arith, omega arith);
      bind = ((4, refl), omega arith);
      hash = ((8, refl), omega arith);
      listen = ((5, refl), omega arith);
    }) in
    let s : Script = script_of d in record {
      shape = subst (λ (x : Script). ShapeFits x.header.shape) (sym is.2) shape;
      range = subst (λ (x : Script). RangeFits x.header.range) (sym is.2) range;
      seed = subst (λ (x : Script). x.header.seed < 2 ^ 32) (sym is.2) (seed_told d.seed f.seed);
      commands = subst (λ (x : Script). Each (Each RaceCommand) x.sections) (sym is.2) f.sections;
      device = subst (λ (x : Script). capture_device x.capture < 2 ^ 16) (sym is.2) (device_told d.capture f.capture);
      net = subst (λ (x : Script). capture_namespace x.capture < 16) (sym is.2) (namespace_told d.capture f.capture);
      small = small;
    }
