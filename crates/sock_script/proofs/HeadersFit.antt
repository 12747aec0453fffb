-- What the header lines of a script may say lets tables be made.
use Rattle.std.proofs.Common.{◌≡◌, ℕ, ◌+◌, ◌%◌, ◌<◌, ◌≤◌, ◌^◌, List, [], ◌∷◌, Option, Some, None, unwrap_or, inl, inr, refl, sym, subst, arith}
use Rattle.std.specs.Int.{IsPowerOfTwo}
use Rattle.std.proofs.lemmas.Nat.{pow_pos}
use Rattle.chain_book.specs.declared.shape.Shape.{Shape}
use Rattle.flat_list.specs.declared.header.Range.{Range}
use Rattle.flat_list.specs.Script.{Script}
use Rattle.flat_list.specs.Ports.{size}
use Rattle.sock_script.specs.declared.parse.Mode.{Mode}
use Rattle.sock_script.specs.declared.line.Line.{Line}
use Rattle.sock_script.specs.declared.line.Line.TheVariants as lines
use Rattle.sock_script.specs.Words.{words_of, lines_of}
use Rattle.chain_book.specs.Shapes.{ShapeFits}
use Rattle.sock_script.specs.Forms.{HasForm, RangeFits}
use Rattle.sock_script.specs.Grammar.{default_shape, default_range}
use Rattle.sock_script.specs.Reading.{Draft, Follows, ReadsLine, Reads, past, nothing_yet}
use Rattle.sock_script.proofs.LineCases.{line_cases}
use Rattle.sock_script.proofs.Reprinted.{read_as}
use Rattle.flat_list.specs.Fits.{FitsTables}
use Rattle.sock_script.specs.Fits.{ScriptsFit}

-- a shape or a range that was said fits
abbrev IfSaid : {A : Type 0} → (A → Type 0) → Option A → Type 0
IfSaid P None = Unit {0}
IfSaid P (Some x) = P x

record SaysFit (draft : Draft) : Type 0 where
  table : IfSaid ShapeFits draft.table
  range : IfSaid RangeFits draft.range

-- what a line says fits
line_fits : (mode : Mode) (old new : Draft) (words : List (List ℕ)) (line : Line) → HasForm words line → Follows mode old line new → SaysFit old → SaysFit new
line_fits mode old new words lines.PassedOver form f s = subst SaysFit (sym f) s
line_fits mode old new words (lines.Table shape) form f s = subst SaysFit (sym f.1) (record { table = form.1; range = s.range })
line_fits mode old new words (lines.Range range) form f s = subst SaysFit (sym f.1) (record { table = s.table; range = form.1 })
line_fits mode old new words (lines.Seed seed) form f s = subst SaysFit (sym f.1) (record { table = s.table; range = s.range })
line_fits mode old new words (lines.Offset offset) form f s = subst SaysFit (sym f.1) (record { table = s.table; range = s.range })
line_fits mode old new words (lines.TimeWaitReuse reuse) form f s = subst SaysFit (sym f.1) (record { table = s.table; range = s.range })
line_fits mode old new words (lines.Reserved reserved) form f s = subst SaysFit (sym f.1) (record { table = s.table; range = s.range })
line_fits mode old new words (lines.Section n) form f s = subst SaysFit (sym f.1) (record { table = s.table; range = s.range })
line_fits mode old new words (lines.Capture dev net) form f s = subst SaysFit (sym f) (record { table = s.table; range = s.range })
line_fits mode old new words (lines.Command c) form f s = subst SaysFit (sym f.1) (record { table = s.table; range = s.range })

-- and so does what reading it leaves, whose bytes may be a capture's
read_fits : (mode : Mode) (old new : Draft) (text : List ℕ) → ReadsLine mode old text new → SaysFit old → SaysFit new
read_fits mode old new text h s =
    elim (line_cases mode old text new h) [
      | inl r ↦ line_fits mode (past old text) new (words_of text) r.line r.form r.follows (record { table = s.table; range = s.range })
      | inr kept ↦ subst SaysFit (sym kept.2) s
    ]

texts_fit : (mode : Mode) (old new : Draft) (texts : List (List ℕ)) → Reads mode old texts new → SaysFit old → SaysFit new
texts_fit mode old new [] h s = subst SaysFit (sym h) s
texts_fit mode old new (text ∷ texts) h s = texts_fit mode h.0 new texts h.2 (read_fits mode old h.0 text h.1 s)

some_power : (n : ℕ) → IsPowerOfTwo n → 1 ≤ n
some_power n p = omega (arith, p.1, pow_pos p.0)

record ShapeRuns (shape : Shape) : Type 0 where
  bind : 1 ≤ shape.bind
  most : shape.bind ≤ 256
  hash : 1 ≤ shape.hash
  listen : 1 ≤ shape.listen
  chains : shape.hash + shape.listen < 2 ^ 32
  slots : shape.slots + 1 < 2 ^ 32

shape_runs : (o : Option Shape) → IfSaid ShapeFits o → ShapeRuns (unwrap_or o default_shape)
shape_runs None s = record { bind = omega arith; most = omega arith; hash = omega arith; listen = omega arith; chains = omega arith; slots = omega arith }
shape_runs (Some shape) s = record {
  bind = some_power shape.bind s.bind.0;
  most = s.bind.1;
  hash = some_power shape.hash s.hash.0;
  listen = some_power shape.listen s.listen.0;
  chains = omega (arith, s.hash.1, s.listen.1);
  slots = omega (arith, s.slots.1);
}

record RangeRuns (range : Range) : Type 0 where
  order : range.low ≤ range.high
  even : size range % 2 ≡ 0

range_runs : (o : Option Range) → IfSaid RangeFits o → RangeRuns (unwrap_or o default_range)
range_runs None s = record { order = omega arith; even = refl }
range_runs (Some range) s = record { order = omega (arith, s.order); even = s.even }

pub scripts_fit : ScriptsFit
scripts_fit mode text script is =
    let h = read_as mode (lines_of text) script is in
    let said = texts_fit mode nothing_yet h.0 (lines_of text) h.1 (record { table = tt; range = tt }) in
    let shape = shape_runs h.0.table said.table in
    let range = range_runs h.0.range said.range in
    subst (λ (s : Script). FitsTables s.header) (sym h.2) (record {
      bind = shape.bind;
      most = shape.most;
      hash = shape.hash;
      listen = shape.listen;
      chains = shape.chains;
      slots = shape.slots;
      range = range.order;
      even = range.even;
    })
