-- Words that name an option and may stand where they do no more: our own.
use Rattle.std.specs.Prelude.{ℕ, ◌-◌, ◌||◌, Bool, false, bytes_eq, codes, List, [], Option, Some, None, slice_get, unwrap_or, if◌then◌else◌}
use Rattle.line_forms.specs.declared.verb.Verb.{Verb}
use Rattle.line_forms.specs.declared.verb.Verb.TheVariants as verbs
use Rattle.line_forms.specs.declared.misfit.Misfit.{Misfit}
use Rattle.line_forms.specs.declared.misfit.Misfit.TheVariants as misfits

-- the word names a device or a network namespace
abbrev pub is_whence : List ℕ → Bool
is_whence word = bytes_eq word (codes "dev") || bytes_eq word (codes "net")

-- the word names an option of a socket
abbrev pub is_of_socket : List ℕ → Bool
is_of_socket word =
    is_whence word || bytes_eq word (codes "uid") || bytes_eq word (codes "reuseaddr")
    || bytes_eq word (codes "reuseport") || bytes_eq word (codes "noport")

-- the word names an option of the verb
abbrev pub is_option : Verb → List ℕ → Bool
is_option verbs.Socket word = is_of_socket word
is_option verbs.Capture word = is_whence word
is_option verbs.Look word = is_whence word
is_option verbs.Connect word = bytes_eq word (codes "from")
is_option verb word = false

-- the word at that place of the line, of the words behind its first, whose places count from 2
abbrev pub word_at : List (List ℕ) → ℕ → List ℕ
word_at words place = unwrap_or (slice_get words (place - 2)) []

-- the place of a word that stands behind all that may stand there, and names an option: it stands there twice, or behind
-- one that it must stand before
abbrev pub untimely : Verb → List (List ℕ) → Misfit → Option ℕ
untimely verb words (misfits.Surplus place) = if is_option verb (word_at words place) then Some place else None
untimely verb words _ = None
