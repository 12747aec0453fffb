-- As a member comes into a group of a bucket or leaves it, no other list of the bucket changes.
use Rattle.std.proofs.Common.{◌≡◌, ◌≢◌, ℕ, zero, suc, ◌+◌, ◌*◌, ◌/◌, ◌%◌, ◌<◌, Bool, true, false, cond, ltb, List, [], ◌∷◌, length, get_or, find, Option, Some, None, refl, sym, ap, subst, ◌∙◌, arith}
use Rattle.std.proofs.lemmas.List.{get_or-set_other}
use Rattle.sock_card.specs.Limits.{group_room}
use Rattle.sock_card.specs.declared.owner.Owner.{Owner}
use Rattle.sock_card.specs.Conflict.{refuses}
use Rattle.bind_buckets.specs.First.{change_first}
use Rattle.bind_buckets.specs.declared.request.Request.TheVariants as requests
use Rattle.bind_buckets.specs.declared.request.Answer.TheVariants as answers
use Rattle.bind_buckets.specs.Bucket.{Bucket, IsSound, answer_to}
use Rattle.bind_buckets.specs.Members.{member, has_member, without_member, joined_by}
use Rattle.bind_buckets.specs.OwnerStep.{Held, has_name, owner_step, listener_answer, group_answer, group_number, place_for, members_at, others, with_member, listening, removed, spoken}
use Rattle.reuseport_group.specs.declared.pass.GroupPasses.{GroupPasses}
use Rattle.reuseport_group.specs.Passes as lists
use Rattle.reuseport_group.specs.Passes.{published}
use Rattle.reuseport_group.specs.Views.{publishing}
use Rattle.sock_ops.specs.Groups.{words_in, Follows, IsGroupOf}
use Rattle.bind_buckets.proofs.GroupNumber.{place_within}
use Rattle.sock_ops.proofs.There.{listens_as}

-- of the bucket of that number, no list but that of this group is another
abbrev pub OneChanges : ℕ → Option ℕ → List (List ℕ) → List (List ℕ) → Type 0
OneChanges number None gs hs = hs ≡ gs
OneChanges number (Some group) gs hs = (group / 8 ≡ number) × ((j : ℕ) → j ≢ group % 8 → get_or hs j [] ≡ get_or gs j [])

-- A member leaves

module _ (is : List ℕ → Bool) (f : List ℕ → List ℕ) where
  change_here : (b : Bool) (x : List ℕ) (xs ys : List (List ℕ)) (j : ℕ) → b ≡ true → j ≢ zero → get_or (cond b (f x ∷ xs) ys) j [] ≡ get_or (x ∷ xs) j []
  change_here true x xs ys zero so other = absurd (other refl)
  change_here true x xs ys (suc j) so other = refl
  change_here false x xs ys j so other = absurd (cc)

  change_later : (b : Bool) (x : List ℕ) (xs ys zs : List (List ℕ)) (j : ℕ) → b ≡ false → ((i : ℕ) → j ≡ suc i → get_or ys i [] ≡ get_or xs i []) → get_or (cond b zs (x ∷ ys)) j [] ≡ get_or (x ∷ xs) j []
  change_later true x xs ys zs j isnt rest = absurd (cc)
  change_later false x xs ys zs zero isnt rest = refl
  change_later false x xs ys zs (suc j) isnt rest = rest j refl

  pub change_else : (xs : List (List ℕ)) (k j : ℕ) → ((i : ℕ) → i < k → is (get_or xs i []) ≡ false) → is (get_or xs k []) ≡ true → j ≢ k → get_or (change_first is f xs) j [] ≡ get_or xs j []
  change_else [] k j before here other = refl
  change_else (x ∷ xs) zero j before here other = change_here (is x) x xs (x ∷ change_first is f xs) j here other
  change_else (x ∷ xs) (suc k) j before here other =
      change_later (is x) x xs (change_first is f xs) (f x ∷ xs) j (before zero (omega arith))
      (λ i same. change_else xs k i (λ n low. before (suc n) (omega arith)) here (λ e. other (same ∙ ap suc e)))

  keep_later : (b : Bool) (x : List ℕ) (xs ys zs : List (List ℕ)) → b ≡ false → ys ≡ xs → cond b zs (x ∷ ys) ≡ x ∷ xs
  keep_later true x xs ys zs isnt rest = absurd (cc)
  keep_later false x xs ys zs isnt rest = ap (λ (ws : List (List ℕ)). x ∷ ws) rest

  pub change_none : (xs : List (List ℕ)) → ((i : ℕ) → i < length xs → is (get_or xs i []) ≡ false) → change_first is f xs ≡ xs
  change_none [] none = refl
  change_none (x ∷ xs) none =
      keep_later (is x) x xs (change_first is f xs) (f x ∷ xs) (none zero (omega arith)) (change_none xs (λ i low. none (suc i) (omega arith)))

-- the groups after an owner that is there left
pub left_groups : (n : ℕ) (h : Held) (a : Owner) → find (has_name a.name) h.owners ≡ Some a → (owner_step n h (requests.Remove a.name)).held.groups ≡ change_first (has_member a.name) (without_member a.name) h.groups
unfolding owner_step
left_groups n h a there = ap (λ o. (spoken h a.name o (λ _. removed h a.name)).held.groups) there

-- A listener joins

joined_groups : (n : ℕ) (h : Held) (a : Owner) (slot : ℕ) → find (has_name a.name) h.owners ≡ Some a
    → (owner_step n h (requests.Listen a.name slot)).held.groups ≡ cond a.reuseport (with_member (place_for h a) (member slot a.name) h.groups) h.groups
unfolding owner_step
joined_groups n h a slot there = ap (λ o. (spoken h a.name o (listening h a.name slot)).held.groups) there

some_group : (g h : Option ℕ) → answers.Group g ≡ answers.Group h → g ≡ h
some_group g h same = cc

joins_at : (t : Bool) (n : ℕ) (gs : List (List ℕ)) (m place : ℕ) (group : Option ℕ) → place < 8 → cond t (answers.Group (Some (group_number n place))) answers.GroupFull ≡ answers.Group group
    → OneChanges n group gs (with_member (Some place) m gs)
joins_at false n gs m place group few said = absurd (cc)
joins_at true n gs m place group few said =
    let is : Some (group_number n place) ≡ group = some_group (Some (group_number n place)) group said in
    let at : (8 * n + place) % 8 ≡ place = omega arith in
    subst (λ o. OneChanges n o gs (with_member (Some place) m gs)) is
    ((omega arith), λ j other. get_or-set_other gs place j (joined_by m (get_or gs place [])) [] (λ same. other (same ∙ sym at)))

joins_in : (n : ℕ) (h : Held) (a : Owner) (m : ℕ) (place group : Option ℕ) → length h.groups ≡ 8 → place_for h a ≡ place → group_answer n h place ≡ answers.Group group → OneChanges n group h.groups (with_member place m h.groups)
joins_in n h a m None group eight is said = absurd (cc)
joins_in n h a m (Some place) group eight is said =
    joins_at (ltb (length (members_at h place)) group_room) n h.groups m place group (subst (λ k. place < k) eight (place_within h a place is)) said

joins_by : (b : Bool) (n : ℕ) (h : Held) (a : Owner) (m : ℕ) (group : Option ℕ) → length h.groups ≡ 8 → cond b (group_answer n h (place_for h a)) (answers.Group None) ≡ answers.Group group
    → OneChanges n group h.groups (cond b (with_member (place_for h a) m h.groups) h.groups)
joins_by true n h a m group eight said = joins_in n h a m (place_for h a) group eight refl said
joins_by false n h a m group eight said = subst (λ o. OneChanges n o h.groups h.groups) (some_group None group said) refl

joins_said : (o : Option Owner) (n : ℕ) (h : Held) (a : Owner) (m : ℕ) (group : Option ℕ) → length h.groups ≡ 8 → listener_answer n h a o ≡ answers.Group group
    → OneChanges n group h.groups (cond a.reuseport (with_member (place_for h a) m h.groups) h.groups)
joins_said None n h a m group eight said = joins_by a.reuseport n h a m group eight said
joins_said (Some other) n h a m group eight said = absurd (cc)

-- a listener comes into the group that the bucket named, if it named one
pub joins : (b : Bucket) (a : Owner) (slot : ℕ) (group : Option ℕ) → IsSound b → find (has_name a.name) b.held.owners ≡ Some a → answer_to b (requests.MayListen a.name) ≡ answers.Group group
    → OneChanges b.number group b.held.groups (owner_step b.number b.held (requests.Listen a.name slot)).held.groups
joins b a slot group sound there said =
    subst (OneChanges b.number group b.held.groups) (sym (joined_groups b.number b.held a slot there))
    (joins_said (find (refuses a) (others b.held a.name)) b.number b.held a (member slot a.name) group sound.places (sym (listens_as b a there) ∙ said))

-- What is published

pub joined_one : (b k : Bucket) (a : Owner) (slot : ℕ) (group : Option ℕ) → IsSound b → find (has_name a.name) b.held.owners ≡ Some a → answer_to b (requests.MayListen a.name) ≡ answers.Group group
    → k.held ≡ (owner_step b.number b.held (requests.Listen a.name slot)).held → OneChanges b.number group b.held.groups k.held.groups
joined_one b k a slot group sound there said next =
    subst (λ (h : Held). OneChanges b.number group b.held.groups h.groups) (sym next) (joins b a slot group sound there said)

leaves_one : (n : ℕ) (h : Held) (name : ℕ) (o : Option ℕ) → length h.groups ≡ 8 → IsGroupOf n h name o → OneChanges n o h.groups (change_first (has_member name) (without_member name) h.groups)
leaves_one n h name None eight none =
    change_none (has_member name) (without_member name) h.groups (λ i low. none i (subst (λ k. i < k) eight low))
leaves_one n h name (Some group) eight first =
    (first.0, λ j other. change_else (has_member name) (without_member name) h.groups (group % 8) j first.2 first.1 other)

pub left_one : (b k : Bucket) (a : Owner) (o : Option ℕ) → IsSound b → find (has_name a.name) b.held.owners ≡ Some a → IsGroupOf b.number b.held a.name o
    → k.held ≡ (owner_step b.number b.held (requests.Remove a.name)).held → OneChanges b.number o b.held.groups k.held.groups
left_one b k a o sound there first next =
    subst (OneChanges b.number o b.held.groups) (sym (ap (λ (h : Held). h.groups) next ∙ left_groups b.number b.held a there))
    (leaves_one b.number b.held a.name o sound.places first)

pub within_groups : (n count all group : ℕ) → group / 8 ≡ n → n < count → all ≡ 8 * count → group < all
within_groups n count all group own place many = omega arith

pub follows_none : (n : ℕ) (h k : Held) (p q : GroupPasses) → OneChanges n None h.groups k.groups → q ≡ p → Follows n None h k p q
follows_none n h k p q one same = record { held = one; nothing = ap lists.known same }

pub follows_some : (n group : ℕ) (h k : Held) (p q : GroupPasses) → OneChanges n (Some group) h.groups k.groups
    → lists.known q ≡ publishing (lists.known p) (lists.now q) group (words_in k group) → published q group ≡ words_in k group → ((other : ℕ) → other ≢ group → published q other ≡ published p other)
    → Follows n (Some group) h k p q
follows_some n group h k p q one list listed kept =
    record {
      own = one.0;
      list = list;
      listed = listed;
      kept = kept;
      others = λ other own apart. one.1 (other % 8) (λ same. apart (let o = one.0 in omega arith));
    }
