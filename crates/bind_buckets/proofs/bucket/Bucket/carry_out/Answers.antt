use Rattle.std.proofs.Common.{◌≡◌, ◌≤◌, false, length, refl, sym, ap, subst, ◌∙◌, Some, Option}
use Rattle.std.specs.Global.{Box}
use Rattle.bind_buckets.specs.declared.held.Held.{Held as Inside}
use Rattle.bind_buckets.specs.Fields.{shown_by, held_in, room_in}
use Rattle.bind_buckets.specs.HeldBy.{held_by, IsStep, IsRoomLeft}
use Rattle.bind_buckets.specs.OwnerStep.{owner_step}
use Rattle.bind_buckets.specs.Bucket.{Bucket, IsAllowed, HasRoom, called, brings_owner}
use Rattle.bind_buckets.specs.Kept.{IsKept}
use Rattle.bind_buckets.proofs.StaysKept.{CalledBy, is_called, kept_called}
use Rattle.bind_buckets.proofs.bucket.Bucket.carry_out.Goals as goal

-- the bucket before, which holds something
abbrev was : (c : goal.After-push) → Bucket
was c = record (shown_by c.self.inside) { held = held_by c.in-Some.held.value }

there : (c : goal.After-push) → c.self.inside.held ≡ Some c.in-Some.held
there c = sym c.in-Some.ensures.value

was_so : (c : goal.After-push) → c.args.self.now ≡ was c
was_so c = sym c.self.view_is ∙ ap (λ (o : Option (Box Inside)). record (shown_by c.self.inside) { held = held_in o }) (there c)

old_is : (c : goal.After-push) → c.deref_mut.result.now ≡ c.in-Some.held.value
old_is c = c.deref_mut.ensures.value

is_called_by : (c : goal.After-push) → CalledBy (was c) c.args.request (held_by c.carry_out-answer.new.self) c.carry_out-answer.result c.push.new.self.notes c.entries_after-self-inside.result c.newcomers_after-self-inside.result
is_called_by c =
    let a = c.carry_out-answer in
    let found : c.len-found.result ≡ length c.in-Some.held.value.owners.owners = c.len-found.ensures.len ∙ ap (λ (x : Inside). length x.owners.owners) c.deref.ensures in
    let left : c.len-left.result ≡ length a.new.self.owners.owners = c.len-left.ensures.len ∙ ap (λ (x : Inside). length x.owners.owners) c.deref-2.ensures in
    record {
      step = subst (λ (x : Inside). IsStep (owner_step c.self.inside.number (held_by x) c.args.request) a.new.self a.result) (old_is c) a.ensures.step;
      journal_is = rw (c.push.ensures.notes, c.note.ensures) refl;
      entries_is = rw (c.entries_after-self-inside.ensures, found, left) refl;
      newcomers_is = rw (c.newcomers_after-self-inside.ensures, found, left) refl;
      none = subst (λ (x : Inside). brings_owner c.args.request ≡ false → length a.new.self.owners.owners ≤ length x.owners.owners) (old_is c) a.ensures.none;
    }

pub invariant_of-self : goal.invariant_of-self
invariant_of-self c =
    let i = c.self.inside in
    let a = c.carry_out-answer in
    let kept = subst (λ (o : Option (Box Inside)). IsKept (record (shown_by i) { held = held_in o }) i.journal.room (room_in o)) (there c) c.self.invariant.kept in
    record {
      kept = kept_called (was c) c.args.request a.new.self.groups a.result c.push.new.self.notes c.entries_after-self-inside.result c.newcomers_after-self-inside.result i.journal.room c.push.new.self.room c.in-Some.held.value.owners.room a.new.self.owners kept
          (subst (λ (b : Bucket). IsAllowed b c.args.request) (was_so c) c.requires.allowed)
          (subst (λ (b : Bucket). HasRoom b c.args.request) (was_so c) c.requires.room)
          c.push.ensures.room
          (subst (λ (x : Inside). IsRoomLeft x.owners a.new.self.owners) (old_is c) a.ensures.room)
          (is_called_by c);
      before = tt;
    }

pub returns-clause-after : goal.returns-clause-after
returns-clause-after c =
    sym (ap (λ (b : Bucket). called b c.args.request) (was_so c)
    ∙ is_called (was c) c.args.request (held_by c.carry_out-answer.new.self) c.carry_out-answer.result c.push.new.self.notes c.entries_after-self-inside.result c.newcomers_after-self-inside.result (is_called_by c))
