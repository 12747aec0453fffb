-- A caller after one command more.
use Rattle.std.proofs.Common.{◌≡◌, ℕ, suc, ◌+◌, ◌-◌, ◌*◌, ◌<◌, ◌≤◌, ◌^◌, true, List, [], ◌∷◌, ◌++◌, length, nat_lt, Result, Ok, Err, inl, inr, ◌⊎◌, refl, sym, ap, ◌∙◌, subst, arith, append-nil}
use Rattle.list_words.specs.Lists.{Each}
use Rattle.flat_calls.specs.Numbers.{label_of}
use Rattle.flat_list.specs.declared.command.Command.{Command}
use Rattle.flat_list.specs.declared.command.Command.TheVariants as commands
use Rattle.section_machine.specs.Carried.{HasEnough, Spends}
use Rattle.section_machine.specs.Sections.{Kept, GivesLabels, given_by, with_mark}
use Rattle.section_machine.specs.Standing.{IsSection, StaysSection}
use Rattle.sock_ops.specs.declared.tables.Tables.{Tables}
use Rattle.sock_ops.specs.declared.tables.Worker.{Worker}
use Rattle.sock_ops.specs.Stands.{MayEnter}
use Rattle.table_rule.specs.Passes.{known, drawn_by}
use Rattle.shared_calls.specs.Callings.{IsCalling, HadEnded, clock_of, HasEntries, HasStamps, calling}
use Rattle.label_index.specs.Numbers.{labels_to}
use Rattle.label_index.proofs.Numbers.{length_labels}
use Rattle.shared_calls.specs.Numbers.{IsNext}

-- a command gives one label or none
given_one : (command : Command) → (given_by command ≡ []) ⊎ ((label : List ℕ) × (given_by command ≡ label ∷ []))
given_one (commands.Socket label options) = inr (label, refl)
given_one (commands.Bind label end) = inl refl
given_one (commands.Listen label) = inl refl
given_one (commands.Connect label from to) = inl refl
given_one (commands.Accept listener label from at) = inr (label, refl)
given_one (commands.Syn listener label from at) = inr (label, refl)
given_one (commands.Ack request label) = inr (label, refl)
given_one (commands.Close label) = inl refl
given_one (commands.Drop label) = inl refl
given_one (commands.At moment) = inl refl
given_one commands.Reap = inl refl
given_one (commands.Look query) = inl refl
given_one (commands.Packets count) = inl refl
given_one commands.Dump = inl refl

-- the labels are numbers still, with room for one more
record Labels (labels : List (List ℕ)) : Type 0 where
  pub numbered : labels ≡ labels_to (length labels)
  pub few : length labels + 1 < 2 ^ 56

module _ (command : Command) (old : List (List ℕ)) (were : Labels old) (room : nat_lt 0 (length (given_by command)) ≡ true → length old + 2 < 2 ^ 56) (next : IsNext (length old + 1) command) where
  stay : (new : List (List ℕ)) → new ≡ old → Labels new
  stay new same = subst Labels (sym same) were

  grow : (new : List (List ℕ)) → new ≡ old ++ given_by command → (given_by command ≡ []) ⊎ ((label : List ℕ) × (given_by command ≡ label ∷ [])) → Labels new
  grow new is (inl none) = stay new (is ∙ ap (λ (ls : List (List ℕ)). old ++ ls) none ∙ append-nil old)
  grow new is (inr (label, one)) =
      let label_is : label ≡ label_of (length old + 1) = (subst (λ (ls : List (List ℕ)). Each (λ l. l ≡ label_of (length old + 1)) ls) one next).0 in
      let all : new ≡ labels_to (suc (length old)) = is ∙ ap (λ (ls : List (List ℕ)). old ++ ls) one ∙ (λ i. were.numbered i ++ label_is i ∷ []) ∙ ap (λ (n : ℕ). labels_to (length old) ++ label_of n ∷ []) (let z : length old + 1 ≡ suc (length old) = omega arith in z) in
      let count : length new ≡ suc (length old) = ap length all ∙ length_labels (suc (length old)) in
      let lt = room (ap (λ (ls : List (List ℕ)). nat_lt 0 (length ls)) one) in
      record { numbered = all ∙ ap labels_to (sym count); few = omega (arith, count, lt) }

  labels_after : {X E : Type 0} (new : List (List ℕ)) (r : Result X E) → GivesLabels command old new r → Labels new
  labels_after new (Ok x) gives = grow new gives (given_one command)
  labels_after new (Err e) (inl gives) = grow new gives (given_one command)
  labels_after new (Err e) (inr same) = stay new same

-- what a command takes
pub enough : (t : Tables) (k : Kept) (w : Worker) (tag : ℕ) (command : Command) → IsCalling (calling t k w tag) → HasEntries (calling t k w tag) command → HasStamps (calling t k w tag) command → HasEnough k w
enough t k w tag command c entries stamps =
    let part = c.part in
    record { enters = omega (arith, entries); draws = omega (arith, part, stamps) }

-- the caller may go on
pub goes_on : {X E : Type 0} (t : Tables) (k l : Kept) (w u : Worker) (tag : ℕ) (command : Command) (r : Result X E) → IsCalling (calling t k w tag) → HasStamps (calling t k w tag) command
    → (nat_lt 0 (length (given_by command)) ≡ true → length k.own.labels + 2 < 2 ^ 56) → IsNext (length k.own.labels + 1) command → IsSection t l u → Spends k l w u → GivesLabels command k.own.labels l.own.labels r
    → HadEnded (calling t l u tag) (clock_of (calling t l u tag)) → IsCalling (calling t l u tag)
goes_on t k l w u tag command r c stamps room next section spends gives ended =
    let labels = labels_after command k.own.labels (record { numbered = c.numbered; few = c.few }) room next l.own.labels r gives in
    let part = c.part in
    let drawn = spends.drawn 1 (omega (arith, part, stamps)) in
    record {
      section = section;
      numbered = labels.numbered;
      few = labels.few;
      part = omega (arith, drawn);
      ended = ended;
    }

-- and with another mark of the sockets to come
pub goes_on_marked : (t : Tables) (k l : Kept) (w : Worker) (tag mark : ℕ) → l ≡ with_mark k mark → StaysSection k l → IsCalling (calling t k w tag) → IsCalling (calling t l w tag)
goes_on_marked t k l w tag mark is stays c =
    let section = stays t w c.section in
    let now : IsCalling (calling t (with_mark k mark) w tag) =
    record { section = subst (λ (x : Kept). IsSection t x w) is section; numbered = c.numbered; few = c.few; part = c.part; ended = c.ended } in
    subst (λ (x : Kept). IsCalling (calling t x w tag)) (sym is) now
