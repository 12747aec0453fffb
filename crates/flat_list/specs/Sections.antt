-- What each section of a script keeps, and the names that its labels stand for: our own rule. The generator is PCG's
-- XSH-RR of 64 bits of state, one stream for each section (O'Neill, "PCG: a family of simple fast space-efficient
-- statistically good algorithms for random number generation").
--
-- In four parts: a section, up to `put_section`; names and labels, up to `GivesLabel`; words of the generator, up to
-- `with_drawn`; and moments, up to `with_moment`. Three that contracts cite stand at the end.
use Rattle.std.specs.Prelude.{◌≡◌, ◌≢◌, ◌≤◌, slice_get, ◌/◌, ◌%◌, ℕ, ◌+◌, ◌*◌, ◌^◌, Bool, ◌==◌, List, [], ◌∷◌, ◌++◌, Option, if◌then◌else◌, find, unwrap_or, position, bytes_eq, length}
use Rattle.std.specs.Option.{option_map}
use Rattle.rand_pcg.specs.Lcg.{Lcg, started, increment_of}
use Rattle.rand_pcg.specs.Pcg.{multiplier_64, pcg32}
use Rattle.flat_list.specs.declared.header.Header.{Header}

-- a section's number, its labels in the order in which they were given, its moment in seconds,
-- and the generator of its offsets
pub record Section : Type 0 where
  pub number : ℕ
  pub labels : List (List ℕ)
  pub moment : ℕ
  pub generator : Lcg

-- a section at its start: it has given no label and drawn no word
abbrev pub new_section : Header → ℕ → Section
new_section header n =
    record { number = n; labels = []; moment = 0; generator = started 64 multiplier_64 header.seed (increment_of 64 n) }

abbrev pub has_number : ℕ → Section → Bool
has_number n s = s.number == n

-- the section of that number as it stands
abbrev pub section_of : Header → ℕ → List Section → Section
section_of header n sections = unwrap_or (find (has_number n) sections) (new_section header n)

-- the labels that the section of that number has given
abbrev pub labels_of : ℕ → List Section → List (List ℕ)
labels_of n sections = unwrap_or (option_map (λ s. s.labels) (find (has_number n) sections)) []

-- the sections with this one in place of the first of its number, or at the end
abbrev pub put_section : Section → List Section → List Section
put_section new [] = new ∷ []
put_section new (s ∷ rest) =
    if has_number new.number s then new ∷ rest else s ∷ put_section new rest

-- a socket's name: its section, and the number of its label, from 1, among those given there
abbrev pub name_at : ℕ → ℕ → ℕ
name_at section place = section * 2 ^ 56 + place + 1

-- the name that a label stands for in the section of that number
abbrev pub name_in : ℕ → List Section → List ℕ → Option ℕ
name_in n sections label = option_map (name_at n) (position (λ l. bytes_eq l label) (labels_of n sections))

-- the section with one more label
abbrev pub with_label : List ℕ → Section → Section
with_label label s = record s { labels = s.labels ++ label ∷ [] }

-- the name that the next label of the section of that number will stand for
abbrev pub next_name : ℕ → List Section → ℕ
next_name n sections = name_at n (length (labels_of n sections))

-- the sections, when that of that number has given one more label
abbrev pub with_given : Header → ℕ → List ℕ → List Section → List Section
with_given header n label sections = put_section (with_label label (section_of header n sections)) sections

-- the label is the last of its section now, and the name is its socket's
pub record GivesLabel (header : Header) (number : ℕ) (label : List ℕ) (old new : List Section) (name : ℕ) : Type 0 where
  pub named : name ≡ next_name number old
  pub given : new ≡ with_given header number label old

-- the next word of a section's generator
abbrev pub word_of : Header → ℕ → List Section → ℕ
word_of header n sections = (pcg32 (section_of header n sections).generator).0

-- the section, when its generator has gone on from that word
abbrev pub past_word : Section → Section
past_word s = record s { generator = (pcg32 s.generator).1 }

-- the sections, when that of that number has drawn a word
abbrev pub with_drawn : Header → ℕ → List Section → List Section
with_drawn header n sections = put_section (past_word (section_of header n sections)) sections

-- the moment of the section of that number
abbrev pub moment_of : Header → ℕ → List Section → ℕ
moment_of header n sections = (section_of header n sections).moment

-- the section at that moment
abbrev pub at_moment : ℕ → Section → Section
at_moment moment s = record s { moment = moment }

-- the sections, when that of that number has come to that moment
abbrev pub with_moment : Header → ℕ → ℕ → List Section → List Section
with_moment header n moment sections = put_section (at_moment moment (section_of header n sections)) sections

-- the label of a name, by its number among those that its section gave, from 1; none where there is no such label
abbrev pub label_of : List Section → ℕ → List ℕ
label_of sections name = unwrap_or (slice_get ([] ∷ labels_of (name / 2 ^ 56) sections) (name % 2 ^ 56)) []

-- each section has one label more, at most
abbrev pub GivesOneAtMost : List Section → List Section → Type 0
GivesOneAtMost old new = (m : ℕ) → length (labels_of m new) ≤ length (labels_of m old) + 1

-- each section but that of number n has the labels that it had
abbrev pub KeepsOthers : ℕ → List Section → List Section → Type 0
KeepsOthers n old new = (m : ℕ) → m ≢ n → labels_of m new ≡ labels_of m old
