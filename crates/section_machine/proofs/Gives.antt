-- The labels that a command gives, and why it is left off.
use Rattle.std.proofs.Common.{◌≡◌, ℕ, List, [], ◌∷◌, ◌++◌, Option, Result, Ok, Err, IfErr, inl, inr, refl, sym, ap, subst, ◌∙◌, append-nil}
use Rattle.std.specs.Result.{IsErr, IsErrAnd}
use Rattle.flat_list.specs.declared.command.Command.{Command}
use Rattle.flat_list.specs.declared.header.Header.{Header}
use Rattle.table_model.specs.declared.operation.Cause.{Cause}
use Rattle.table_model.specs.declared.operation.Cause.TheVariants as causes
use Rattle.table_model.specs.declared.operation.OpEnd.{OpEnd}
use Rattle.table_model.specs.declared.operation.OpEnd.TheVariants as errors
use Rattle.table_model.specs.Own.{Mine, Offsets}
use Rattle.sock_ops.specs.Goes.{NotBusy}
use Rattle.section_machine.specs.Places.{Labelled, own_of, with_place, with_given}
use Rattle.section_machine.specs.Sections.{Kept, kept, given_by, GivesLabels}

module _ {X E : Type 0} (command : Command) (old new : List (List ℕ)) where
  -- none
  pub gives_none : given_by command ≡ [] → new ≡ old → (r : Result X E) → GivesLabels command old new r
  gives_none none same (Ok x) = same ∙ sym (ap (λ (ls : List (List ℕ)). old ++ ls) none ∙ append-nil old)
  gives_none none same (Err e) = inr same

  -- its own
  pub gives_one : new ≡ old ++ given_by command → (r : Result X E) → GivesLabels command old new r
  gives_one one (Ok x) = one
  gives_one one (Err e) = inl one

  -- or not, where it is left off
  pub gives_not : new ≡ old → (r : Result X E) → IsErr r → GivesLabels command old new r
  gives_not same (Ok x) is = absurd (cc)
  gives_not same (Err e) is = inr same

module _ (k : Kept) (h : Header) (l l1 : Labelled) (moment : ℕ) (o : Offsets) (waits : List Mine) (view : kept h (own_of l moment o waits) ≡ k) where
  -- the labels, where they are as they were
  pub labels_same : l1 ≡ l → l1.labels ≡ k.own.labels
  labels_same same = ap (λ (x : Labelled). x.labels) same ∙ ap (λ (x : Kept). x.own.labels) view

  -- with one more
  pub labels_more : (label : List ℕ) → l1 ≡ with_given l label → l1.labels ≡ k.own.labels ++ label ∷ []
  labels_more label given =
      ap (λ (x : Labelled). x.labels) given ∙ ap (λ (x : Kept). x.own.labels ++ label ∷ []) view

-- and where a socket was taken out of its place, and another put to one
pub labels_put : (l l1 l2 : Labelled) (i j : ℕ) (x y : Option Mine) → l1 ≡ with_place l i x → l2 ≡ with_place l1 j y → l2.labels ≡ l.labels
labels_put l l1 l2 i j x y taken put = ap (λ (z : Labelled). z.labels) put ∙ ap (λ (z : Labelled). z.labels) taken

pub no_more : (old new : List (List ℕ)) → new ≡ old → new ≡ old ++ []
no_more old new same = same ∙ sym (append-nil old)

not_busy : (cause : Cause) → NotBusy (errors.LeftOff cause) → cause ≡ causes.Memory
not_busy causes.Memory h = refl
not_busy causes.Busy h = absurd h

-- an operation that waits for good is left off for want of memory alone
pub off_patient : (end : OpEnd) (cause : Cause) → end ≡ errors.LeftOff cause → NotBusy end → cause ≡ causes.Memory
off_patient end cause is h = not_busy cause (subst NotBusy is h)

pub err_patient : {X : Type 0} (r : Result X Cause) (end : OpEnd) (cause : Cause) → IsErrAnd r (λ e. e ≡ cause) → end ≡ errors.LeftOff cause → NotBusy end → IfErr r (λ e. e ≡ causes.Memory)
err_patient (Ok x) end cause same is h = absurd same
err_patient (Err e) end cause same is h = same ∙ off_patient end cause is h
