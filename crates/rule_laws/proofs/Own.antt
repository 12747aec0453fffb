-- What each command makes of its own section.
use Rattle.std.proofs.Common.{◌≡◌, ℕ, ◌∙◌, List, [], ◌∷◌, ◌++◌, true, false, nat_lt, Some, None, Option, refl, sym, ap, ◌⊎◌, inl, inr}
use Rattle.std.proofs.lemmas.Bool.{cond_both, both_ways}
use Rattle.flat_list.specs.declared.header.Header.{Header}
use Rattle.flat_list.specs.declared.command.Command.{Command}
use Rattle.flat_list.specs.declared.command.Command.TheVariants as commands
use Rattle.flat_list.specs.declared.command.Reply.TheVariants as replies
use Rattle.flat_list.specs.Flat.{Flat}
use Rattle.flat_list.specs.Outcome.{Outcome, unchanged, with_new_label, open_socket, draw}
use Rattle.flat_list.specs.Sections.{Section, section_of, with_label, past_word, at_moment, with_moment, moment_of, next_name}
use Rattle.flat_list.specs.Sound.{is_refusal}
use Rattle.flat_list.specs.Step.{step}
use Rattle.flat_list.proofs.LabelsGrow.{numbered}
use Rattle.flat_list.proofs.SectionsStay.{step_stays}
use Rattle.flat_list.proofs.PutSection.{section_put}
use Rattle.rule_laws.specs.Leaves.{label_by, moment_by, GoesOn, own, CommandsLeave, RefusalsLeave, MomentsAreSet}
use Rattle.rule_laws.proofs.Walk.{bind_keeps, listen_keeps, connect_keeps, accept_keeps, syn_keeps, ack_keeps, drop_keeps, close_keeps}

none_more : (xs : List (List ℕ)) → xs ≡ xs ++ []
none_more [] = refl
none_more (x ∷ xs) = ap (λ ys. x ∷ ys) (none_more xs)

module _ (flat : Flat) (n : ℕ) where
  -- the section of that number among these
  abbrev among : List Section → Section
  among sections = section_of flat.header n sections

  -- it is as it was, or a word further on
  abbrev Went : List Section → Type 0
  Went sections = (among sections ≡ own n flat) ⊎ (among sections ≡ past_word (own n flat))

  is_numbered : (own n flat).number ≡ n
  is_numbered = numbered flat.header n flat.sections

  draw_went : (offset : Option ℕ) → Went (draw flat n offset).flat.sections
  draw_went (Some offset) = inl refl
  draw_went None = inr (section_put flat.header n (past_word (own n flat)) flat.sections is_numbered)

  searched : Went (draw flat n flat.header.offset).flat.sections
  searched = draw_went flat.header.offset

  goes : (sections : List Section) → Went sections → GoesOn [] (own n flat) (among sections)
  goes sections (inl e) = record { labels = ap (λ (s : Section). s.labels) e ∙ none_more (own n flat).labels; words = inl (ap (λ (s : Section). s.generator) e) }
  goes sections (inr e) = record { labels = ap (λ (s : Section). s.labels) e ∙ none_more (own n flat).labels; words = inr (ap (λ (s : Section). s.generator) e) }

  stays : (sections : List Section) → Went sections → (among sections).moment ≡ (own n flat).moment
  stays sections (inl e) = ap (λ (s : Section). s.moment) e
  stays sections (inr e) = ap (λ (s : Section). s.moment) e

  given : (label : List ℕ) → among (with_new_label flat n label).sections ≡ with_label label (own n flat)
  given label = section_put flat.header n (with_label label (own n flat)) flat.sections is_numbered

  set : (moment : ℕ) → among (with_moment flat.header n moment flat.sections) ≡ at_moment moment (own n flat)
  set moment = section_put flat.header n (at_moment moment (own n flat)) flat.sections is_numbered

  -- the section has given that label
  abbrev Gives : List ℕ → List Section → Type 0
  Gives label sections = among sections ≡ with_label label (own n flat)

  gives : (label : List ℕ) (sections : List Section) → Gives label sections → GoesOn (label ∷ []) (own n flat) (among sections)
  gives label sections e = record { labels = ap (λ (s : Section). s.labels) e; words = inl (ap (λ (s : Section). s.generator) e) }

  abbrev Goes : Command → Outcome → Type 0
  Goes command o = GoesOn (label_by command) (own n flat) (among o.flat.sections)

  own_goes : (command : Command) → Goes command (step flat n command)
  unfolding step
  own_goes (commands.Socket label options) = gives label (with_new_label flat n label).sections (given label)
  own_goes (commands.Bind label end) = goes (step flat n (commands.Bind label end)).flat.sections (bind_keeps Went flat n (inl refl) searched (open_socket flat n label) end)
  own_goes (commands.Listen label) = goes (step flat n (commands.Listen label)).flat.sections (listen_keeps Went flat n (inl refl) searched (open_socket flat n label))
  own_goes (commands.Connect label from to) =
      goes (step flat n (commands.Connect label from to)).flat.sections (connect_keeps Went flat n (inl refl) searched (open_socket flat n label) from to)
  own_goes (commands.Accept listener label from at) =
      gives label (step flat n (commands.Accept listener label from at)).flat.sections
      (accept_keeps (Gives label) (with_new_label flat n label) (next_name n flat.sections) (open_socket flat n listener) from at (given label))
  own_goes (commands.Syn listener label from at) =
      gives label (step flat n (commands.Syn listener label from at)).flat.sections
      (syn_keeps (Gives label) (with_new_label flat n label) (next_name n flat.sections) (open_socket flat n listener) from at (given label))
  own_goes (commands.Ack request label) =
      gives label (step flat n (commands.Ack request label)).flat.sections
      (ack_keeps (Gives label) (with_new_label flat n label) n (next_name n flat.sections) (open_socket flat n request) (given label))
  own_goes (commands.Close label) = goes (step flat n (commands.Close label)).flat.sections (close_keeps Went flat n (open_socket flat n label) (inl refl))
  own_goes (commands.Drop label) = goes (step flat n (commands.Drop label)).flat.sections (drop_keeps Went flat (open_socket flat n label) (inl refl))
  own_goes (commands.At moment) =
      cond_both (nat_lt moment (moment_of flat.header n flat.sections)) (unchanged flat replies.Einval)
      (unchanged (record flat { sections = with_moment flat.header n moment flat.sections }) replies.Ok) (Goes (commands.At moment))
      (λ _. goes flat.sections (inl refl))
      (λ _. record { labels = ap (λ (s : Section). s.labels) (set moment) ∙ none_more (own n flat).labels; words = inl (ap (λ (s : Section). s.generator) (set moment)) })
  own_goes commands.Reap = goes flat.sections (inl refl)
  own_goes (commands.Look query) = goes flat.sections (inl refl)
  own_goes (commands.Packets count) = goes flat.sections (inl refl)
  own_goes commands.Dump = goes flat.sections (inl refl)

  -- the section's moment after a command that is refused, and after one that is done
  record Moments (command : Command) (o : Outcome) : Type 0 where
    refused : is_refusal o.reply ≡ true → (among o.flat.sections).moment ≡ (own n flat).moment
    done : is_refusal o.reply ≡ false → (among o.flat.sections).moment ≡ moment_by command (own n flat).moment

  abbrev Stays : List Section → Type 0
  Stays sections = (among sections).moment ≡ (own n flat).moment

  unmoved : (command : Command) (o : Outcome) → moment_by command (own n flat).moment ≡ (own n flat).moment → Stays o.flat.sections → Moments command o
  unmoved command o is e = record { refused = λ _. e; done = λ _. e ∙ sym is }

  labelled : (label : List ℕ) → Stays (with_new_label flat n label).sections
  labelled label = ap (λ (s : Section). s.moment) (given label)

  moments : (command : Command) → Moments command (step flat n command)
  unfolding step
  moments (commands.Socket label options) = unmoved (commands.Socket label options) (step flat n (commands.Socket label options)) refl (labelled label)
  moments (commands.Bind label end) =
      unmoved (commands.Bind label end) (step flat n (commands.Bind label end)) refl
      (stays (step flat n (commands.Bind label end)).flat.sections (bind_keeps Went flat n (inl refl) searched (open_socket flat n label) end))
  moments (commands.Listen label) =
      unmoved (commands.Listen label) (step flat n (commands.Listen label)) refl
      (stays (step flat n (commands.Listen label)).flat.sections (listen_keeps Went flat n (inl refl) searched (open_socket flat n label)))
  moments (commands.Connect label from to) =
      unmoved (commands.Connect label from to) (step flat n (commands.Connect label from to)) refl
      (stays (step flat n (commands.Connect label from to)).flat.sections (connect_keeps Went flat n (inl refl) searched (open_socket flat n label) from to))
  moments (commands.Accept listener label from at) =
      unmoved (commands.Accept listener label from at) (step flat n (commands.Accept listener label from at)) refl
      (accept_keeps Stays (with_new_label flat n label) (next_name n flat.sections) (open_socket flat n listener) from at (labelled label))
  moments (commands.Syn listener label from at) =
      unmoved (commands.Syn listener label from at) (step flat n (commands.Syn listener label from at)) refl
      (syn_keeps Stays (with_new_label flat n label) (next_name n flat.sections) (open_socket flat n listener) from at (labelled label))
  moments (commands.Ack request label) =
      unmoved (commands.Ack request label) (step flat n (commands.Ack request label)) refl
      (ack_keeps Stays (with_new_label flat n label) n (next_name n flat.sections) (open_socket flat n request) (labelled label))
  moments (commands.Close label) =
      unmoved (commands.Close label) (step flat n (commands.Close label)) refl (close_keeps Stays flat n (open_socket flat n label) refl)
  moments (commands.Drop label) =
      unmoved (commands.Drop label) (step flat n (commands.Drop label)) refl (drop_keeps Stays flat (open_socket flat n label) refl)
  moments (commands.At moment) =
      cond_both (nat_lt moment (moment_of flat.header n flat.sections)) (unchanged flat replies.Einval)
      (unchanged (record flat { sections = with_moment flat.header n moment flat.sections }) replies.Ok) (Moments (commands.At moment))
      (λ _. record { refused = λ _. refl; done = λ h. absurd (both_ways true h refl) })
      (λ _. record { refused = λ h. absurd (both_ways false refl h); done = λ _. ap (λ (s : Section). s.moment) (set moment) })
  moments commands.Reap = unmoved commands.Reap (step flat n commands.Reap) refl refl
  moments (commands.Look query) = unmoved (commands.Look query) (step flat n (commands.Look query)) refl refl
  moments (commands.Packets count) = unmoved (commands.Packets count) (step flat n (commands.Packets count)) refl refl
  moments commands.Dump = unmoved commands.Dump (step flat n commands.Dump) refl refl

  same_header : (command : Command) → (step flat n command).flat.header ≡ flat.header
  same_header command = (step_stays flat n command).0

  -- the section's place among the sections doesn't hang on which header it is read by
  by_header : (command : Command) → own n (step flat n command).flat ≡ among (step flat n command).flat.sections
  by_header command = ap (λ (h : Header). section_of h n (step flat n command).flat.sections) (same_header command)

pub commands_leave : CommandsLeave
commands_leave flat n command = (
  record { header = (step_stays flat n command).0; others = (step_stays flat n command).1 },
  rw (by_header flat n command) (own_goes flat n command),
)

pub refusals_leave : RefusalsLeave
refusals_leave flat n command h = ap (λ (s : Section). s.moment) (by_header flat n command) ∙ (moments flat n command).refused h

pub moments_are_set : MomentsAreSet
moments_are_set flat n command h = ap (λ (s : Section). s.moment) (by_header flat n command) ∙ (moments flat n command).done h
