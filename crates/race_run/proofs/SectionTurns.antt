-- A turn of the loops over a section's commands, and over the sections, on tables that mean a list.
use Rattle.std.proofs.Common.{◌≡◌, ℕ, ◌+◌, ◌<◌, ◌≤◌, List, [], ◌++◌, map, length, drop, get_or, find, None, unwrap_or, refl, sym, ap, ◌∙◌, subst, arith}
use Rattle.std.proofs.lemmas.Grind.{common_steps}
use Rattle.capture_reader.specs.declared.packet.Item.{Item}
use Rattle.flat_list.specs.declared.header.Header.{Header}
use Rattle.flat_list.specs.declared.command.Command.{Command}
use Rattle.flat_list.specs.declared.command.Reply.{Reply}
use Rattle.flat_list.specs.Flat.{Flat, new_flat}
use Rattle.flat_list.specs.Run.{after}
use Rattle.flat_list.specs.Sections.{Section as ListSection, has_number, section_of, new_section as list_section}
use Rattle.flat_list.specs.Step.{step}
use Rattle.flat_list.proofs.LabelsGrow.{gives_at_one, labels_stay}
use Rattle.flat_list.proofs.Soundness.{starts as starts_sound}
use Rattle.sock_script.specs.Steps.{issue, item_shown, shown_from, RunsCommand, RunsSection}
use Rattle.sock_script.specs.Output.{Replies, issued_from, events_from, listings_from}
use Rattle.sock_script.proofs.RunTurns.{RanSoFar, ran_start, ran_more, ran_all, RanSections, sections_start, sections_next, sections_replied, sections_listed}
use Rattle.table_model.specs.Tables.{Tables, new_tables}
use Rattle.table_model.specs.Own.{new_own}
use Rattle.table_model.specs.Means.{Means, IsShape}
use Rattle.table_model.proofs.parts.Start.{new_mean_empty, starts_meant}
use Rattle.flat_list.specs.Fits.{FitsTables}
use Rattle.section_machine.specs.Sections.{Kept, kept, KeepsHeader}
use Rattle.race_run.specs.Steps.{AnswersAll, StartsAt, RunsAs, RunsOne, RunsEach}
use Rattle.flat_list.proofs.SectionsStay.{step_stays}

-- what stands after some commands of a section that began at the first list
pub record SoFar (header : Header) (n : ℕ) (first : Flat) (all : List Command) (items left : List Item) (before out : Replies) (i : ℕ) (m : Kept) (t : Tables) : Type 0 where
  pub flat : Flat
  pub ran : RanSoFar n first flat (drop i all) all items left before out i
  pub number : m.own.number ≡ n
  pub header_is : flat.header ≡ header
  pub machine_is : m.header ≡ header
  pub means : Means n m.own t flat
  pub shape : IsShape header
  pub later : (k : ℕ) → n + 1 ≤ k → find (has_number k) flat.sections ≡ None

-- so from whatever list the tables meant
abbrev pub Turns : Header → ℕ → Tables → List Command → List Item → List Item → Replies → Replies → ℕ → Kept → Tables → Type 0
Turns header n old all items left before out i m t =
    (first : Flat) → StartsAt header n old first → SoFar header n first all items left before out i m t

-- the section that hasn't begun is a new one
not_begun : (header : Header) (n : ℕ) (sections : List ListSection) → find (has_number n) sections ≡ None → section_of header n sections ≡ list_section header n
not_begun header n sections h = ap (λ o. unwrap_or o (list_section header n)) h

begins : (header : Header) (n : ℕ) (t : Tables) (first : Flat) → 1 ≤ n → StartsAt header n t first → Means n (new_own header n) t first
begins header n t first some s =
    subst (λ h. Means n (new_own h n) t first) s.header_is
    (starts_meant n t first some (subst IsShape (sym s.header_is) s.shape) s.sound s.tables (not_begun first.header n first.sections (s.fresh n (omega arith))))

pub turns_start : (header : Header) (n : ℕ) (t : Tables) (all : List Command) (items : List Item) (out : Replies) (m : Kept) → 1 ≤ n → m ≡ kept header (new_own header n) → Turns header n t all items items out out 0 m t
turns_start header n t all items out m some is first s =
    subst (λ (m : Kept). SoFar header n first all items items out out 0 m t) (sym is) (record {
      flat = first;
      ran = ran_start n first all items out;
      number = refl;
      header_is = s.header_is;
      machine_is = refl;
      means = begins header n t first some s;
      shape = s.shape;
      later = λ k above. s.fresh k (omega arith);
    })

module _ (header : Header) (n : ℕ) (old : Tables) (all : List Command) (items left : List Item) (before out : Replies) (i : ℕ) (m : Kept) (t : Tables) where
  same_header : (first : Flat) (s : SoFar header n first all items left before out i m t) → s.flat.header ≡ m.header
  same_header first s = s.header_is ∙ sym s.machine_is

  own_means : (first : Flat) (s : SoFar header n first all items left before out i m t) → Means m.own.number m.own t s.flat
  own_means first s = subst (λ k. Means k m.own t s.flat) (sym s.number) s.means

  -- one command more
  pub turns_next : (left_after : List Item) (new : Replies) (m_after : Kept) (t_after : Tables) (command : Command)
      → i < length all → command ≡ get_or all i command → KeepsHeader m m_after → RunsEach m t command left left_after out new m_after.own t_after
      → Turns header n old all items left before out i m t → Turns header n old all items left_after before new (i + 1) m_after t_after
  turns_next left_after new m_after t_after command below here keeps runs turns first starts =
      let s = turns first starts in
      let r : RunsOne n s.flat command left left_after out new m_after.own t_after =
      subst (λ k. RunsOne k s.flat command left left_after out new m_after.own t_after) s.number (runs s.flat (same_header first s) (own_means first s)) in
      let next = (step s.flat n command).flat in
      let stays = step_stays s.flat n command in
      let labels = labels_stay n s.flat.sections next.sections (gives_at_one s.flat n command) in
      record {
        flat = next;
        ran = ran_more n first s.flat next items left left_after before out new i all command below s.ran
            (subst (λ d. RunsCommand s.flat next n d left left_after out new) here r.runs) labels.labels labels.others;
        number = r.means.own_is.number;
        header_is = stays.0 ∙ s.header_is;
        machine_is = keeps.header ∙ s.machine_is;
        means = r.means;
        shape = s.shape;
        later = λ k above. stays.1 k (λ e. absurd (omega arith)) ∙ s.later k above;
      }

-- all commands of the section
pub turns_end : (header : Header) (n : ℕ) (old : Tables) (all : List Command) (items left : List Item) (before out : Replies) (i : ℕ) (m : Kept) (t : Tables) → length all ≤ i → Turns header n old all items left before out i m t → RunsAs header n old t all items left before out
turns_end header n old all items left before out i m t past turns first starts =
    let s = turns first starts in
    let none : drop i all ≡ [] = grind (arith, common_steps) in
    let runs : RunsSection first s.flat n all items left before out = ran_all n first s.flat all items left before out i (subst (λ l. RanSoFar n first s.flat l all items left before out i) none s.ran) in
    let begins_next : StartsAt header (n + 1) t s.flat = record { header_is = s.header_is; shape = s.shape; sound = s.means.sound; tables = s.means.tables; fresh = s.later } in
    record {
      runs = subst (λ f. RunsSection first f n all items left before out) runs.flat runs;
      starts = subst (λ f. StartsAt header (n + 1) t f) runs.flat begins_next;
    }

-- what stands after some sections
pub record Ran (header : Header) (all : List (List Command)) (items left : List Item) (out : Replies) (i : ℕ) (t : Tables) : Type 0 where
  pub flat : Flat
  pub ran : RanSections (new_flat header) flat all items left out i
  pub starts : StartsAt header (i + 1) t flat

shape_of : (header : Header) → FitsTables header → IsShape header
shape_of header fits = record { bind = fits.bind; hash = fits.hash; listen = fits.listen }

pub ran_none : (header : Header) (all : List (List Command)) (items : List Item) (t : Tables) → FitsTables header → t ≡ new_tables header.shape header.seed → Ran header all items items (record { each = []; listings = [] }) 0 t
ran_none header all items t fits is = record {
  flat = new_flat header;
  ran = sections_start header all items;
  starts = subst (λ (t : Tables). StartsAt header 1 t (new_flat header)) (sym is)
      (record { header_is = refl; shape = shape_of header fits; sound = starts_sound header; tables = new_mean_empty header; fresh = λ m h. refl });
}

-- one section more
pub ran_next : (header : Header) (all : List (List Command)) (items left left_after : List Item) (out new : Replies) (i : ℕ) (t t_after : Tables) (commands : List Command) → i < length all → commands ≡ get_or all i commands
    → RunsAs header (i + 1) t t_after commands left left_after out new → Ran header all items left out i t → Ran header all items left_after new (i + 1) t_after
ran_next header all items left left_after out new i t t_after commands below here runs r =
    let s = runs r.flat r.starts in
    let next = after r.flat (issue (i + 1) commands) in
    record { flat = next; ran = sections_next (new_flat header) r.flat next all items left left_after out new i commands below here r.ran s.runs; starts = s.starts }

-- all sections, and the items that were left
module _ (header : Header) (all : List (List Command)) (items left : List Item) (out : Replies) (new : List Reply) (i : ℕ) (t : Tables) (past : length all ≤ i)
    (r : Ran header all items left out i t) (answers : AnswersAll t left out.each new)
  where
    last : record out { each = new } ≡ record out { each = out.each ++ map (item_shown r.flat) left }
    last = ap (λ (l : List Reply). record out { each = l })
        (answers r.flat (subst IsShape (sym r.starts.header_is) r.starts.shape) r.starts.sound r.starts.tables)

    pub every_replied : new ≡ shown_from (new_flat header) (events_from items (issued_from 1 all))
    every_replied = sections_replied (new_flat header) r.flat all items left out (record out { each = new }) i past r.ran last

    pub every_listed : out.listings ≡ listings_from (new_flat header) (events_from items (issued_from 1 all))
    every_listed = sections_listed (new_flat header) r.flat all items left out (record out { each = new }) i past r.ran last
