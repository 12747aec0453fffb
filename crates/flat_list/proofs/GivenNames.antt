-- Names that sections give: a new one is nobody's, and one that was given stays given.
use Rattle.std.proofs.Common.{◌≡◌, ◌≢◌, ℕ, ◌+◌, ◌*◌, ◌^◌, ◌≤◌, ◌<◌, ◌/◌, ◌%◌, List, [], ◌∷◌, length, arith, ap, ◌∙◌, length-append}
use Rattle.std.proofs.lemmas.Nat.{div-mul-add, shr_split}
use Rattle.list_words.specs.Lists.{Each}
use Rattle.list_words.proofs.EachLemmas.{each_weaken}
use Rattle.flat_list.specs.declared.socket.Socket.{Socket}
use Rattle.flat_list.specs.declared.header.Header.{Header}
use Rattle.flat_list.specs.Sections.{with_given, Section, labels_of, name_at}
use Rattle.flat_list.specs.Sound.{IsGivenName, IsGiven}
use Rattle.flat_list.proofs.LabelsGrow.{given_at, GivesAt, grows}

-- a name says its section and its number
pub section_in_name : (n k : ℕ) → k + 1 < 2 ^ 56 → name_at n k / 2 ^ 56 ≡ n
section_in_name n k h = ap (λ x. x / 2 ^ 56) (let e : n * 2 ^ 56 + k + 1 ≡ n * 2 ^ 56 + (k + 1) = omega arith in e) ∙ div-mul-add n (2 ^ 56) (k + 1) h

number_in_name : (n k : ℕ) → k + 1 < 2 ^ 56 → name_at n k % 2 ^ 56 ≡ k + 1
number_in_name n k h = let e = section_in_name n k h in omega (arith, shr_split (name_at n k) 24)

-- the name that the next label stands for
pub next_is_given : (header : Header) (n : ℕ) (label : List ℕ) (sections : List Section) (s : Socket) → length (labels_of n sections) + 1 < 2 ^ 56 → s.owner.name ≡ name_at n (length (labels_of n sections)) → IsGiven (with_given header n label sections) s
next_is_given header n label sections s room is =
    let count : ℕ = length (labels_of n sections) in
    let place : s.owner.name / 2 ^ 56 ≡ n = rw is (section_in_name n count room) in
    let number : s.owner.name % 2 ^ 56 ≡ count + 1 = rw is (number_in_name n count room) in
    record {
      first = omega arith;
      last = rw (place, given_at header n label sections) (omega (arith, number, length-append (labels_of n sections) (label ∷ [])));
    }

pub is_new : (n : ℕ) (sections : List Section) (name : ℕ) → length (labels_of n sections) + 1 < 2 ^ 56 → IsGivenName sections name → name ≢ name_at n (length (labels_of n sections))
is_new n sections name room given is =
    let count : ℕ = length (labels_of n sections) in
    let place : name / 2 ^ 56 ≡ n = rw is (section_in_name n count room) in
    let number : name % 2 ^ 56 ≡ count + 1 = rw is (number_in_name n count room) in
    let last : name % 2 ^ 56 ≤ length (labels_of n sections) = rw place at given.last in
    absurd (omega arith)

pub next_is_new : (n : ℕ) (sections : List Section) (sockets : List Socket) → length (labels_of n sections) + 1 < 2 ^ 56 → Each (IsGiven sections) sockets → Each (λ (s : Socket). s.owner.name ≢ name_at n (length (labels_of n sections))) sockets
next_is_new n sections sockets room given =
    each_weaken (IsGiven sections) (λ s. s.owner.name ≢ name_at n (length (labels_of n sections))) sockets (λ s g. is_new n sections s.owner.name room g) given

pub stays_given : (n : ℕ) (old new : List Section) (name : ℕ) → GivesAt n old new → IsGivenName old name → IsGivenName new name
stays_given n old new name gives given =
    let grown = grows n (name / 2 ^ 56) old new gives in
    record { first = given.first; last = omega (arith, given.last, grown.least) }

pub stay_given : (n : ℕ) (old new : List Section) (sockets : List Socket) → GivesAt n old new → Each (IsGiven old) sockets → Each (IsGiven new) sockets
stay_given n old new sockets gives given =
    each_weaken (IsGiven old) (IsGiven new) sockets (λ s. stays_given n old new s.owner.name gives) given
