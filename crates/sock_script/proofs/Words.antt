-- Words that are spelled in two ways, and words that may be absent.
use Rattle.std.proofs.Common.{◌≡◌, ℕ, zero, suc, ◌≤◌, ◌∙◌, List, [], ◌∷◌, ◌++◌, append_assoc, length, slice_get, codes, decimal, eqb, ap, Some, None, Option, Bool, true, false, ◌==◌, arith, refl, sym}
use Rattle.std.specs.Borrow.{Bor}
use Rattle.std.proofs.lemmas.Bool.{false≢true, eqb-true}
use Rattle.std.proofs.lemmas.Fmt.{decimal_digit}
use Rattle.sock_script.specs.Seen.{texts}
use Rattle.flat_list.specs.declared.owned.Options.{Options}
use Rattle.sock_script.specs.Forms.{namespace_words, user_words, device_words, flag_words, option_words, switch_word}
use Rattle.sock_script.proofs.Verbs.{word_code, never}

-- the second words are the same
pub second_is : (u v a b : List ℕ) (vs ws : List (List ℕ)) → u ∷ a ∷ vs ≡ v ∷ b ∷ ws → a ≡ b
second_is u v a b vs ws e = cc

-- and the third
pub third_is : (a b c x y z : List ℕ) (vs ws : List (List ℕ)) → a ∷ b ∷ c ∷ vs ≡ x ∷ y ∷ z ∷ ws → c ≡ z
third_is a b c x y z vs ws e = cc

-- the words past the first
pub past_one : (a x : List ℕ) (vs ws : List (List ℕ)) → a ∷ vs ≡ x ∷ ws → vs ≡ ws
past_one a x vs ws e = cc

-- and those past the second
pub past_two : (a b x y : List ℕ) (vs ws : List (List ℕ)) → a ∷ b ∷ vs ≡ x ∷ y ∷ ws → vs ≡ ws
past_two a b x y vs ws e = cc

-- and those past the third
pub past_three : (a b c x y z : List ℕ) (vs ws : List (List ℕ)) → a ∷ b ∷ c ∷ vs ≡ x ∷ y ∷ z ∷ ws → vs ≡ ws
past_three a b c x y z vs ws e = cc

-- the words after a verb and one word more
pub after_one : (v w a b : List ℕ) (words rest more : List (List ℕ)) → words ≡ a ∷ rest → v ∷ words ≡ w ∷ b ∷ more → rest ≡ more
after_one v w a b words rest more h e = cc

-- the words after a verb and two words more
pub after_two : (v w a b x y : List ℕ) (words rest last more : List (List ℕ)) → words ≡ a ∷ rest → rest ≡ x ∷ last → v ∷ words ≡ w ∷ b ∷ y ∷ more → last ≡ more
after_two v w a b x y words rest last more h k e = cc

-- where the code sees no words, none are left
pub none_left : (words : List (Bor (List ℕ))) → true ≡ (length words == 0) → texts words ≡ []
none_left [] none = refl
none_left (w ∷ ws) none = absurd (omega (arith, eqb-true (length (w ∷ ws)) 0 (sym none)))

-- there can't be words left where none are
pub is_over : (words : List (Bor (List ℕ))) → [] ≡ texts words → false ≡ (length words == 0) → ⊥
is_over [] e some = false≢true some
is_over (w ∷ ws) e some = cc

-- a word's code, where there is one
first_code : Option (List ℕ) → ℕ
first_code None = 0
first_code (Some word) = word_code 0 word

-- two words of different codes, which differ
abbrev IsApart : List ℕ → List ℕ → Type 0
IsApart v w = eqb (word_code 0 v) (word_code 0 w) ≡ false

words_differ : (v w : List ℕ) → IsApart v w → Some v ≡ Some w → ⊥
unfolding first_code
words_differ v w apart e = never (word_code 0 v) (word_code 0 w) (ap first_code e) apart

-- the words don't begin with that one
abbrev pub Lacks : List ℕ → List (List ℕ) → Type 0
Lacks word words = slice_get words 0 ≡ Some word → ⊥

-- an option and what follows it don't begin with a word that neither begins with
module _ (word : List ℕ) (rest : List (List ℕ)) (lacks : Lacks word rest) where
  flag-lacks : (flag : List ℕ) (set : Bool) → IsApart flag word → Lacks word (flag_words flag set ++ rest)
  flag-lacks flag true apart = words_differ flag word apart
  flag-lacks flag false apart = lacks

  device-lacks : (dev : Option ℕ) → IsApart (codes "dev") word → Lacks word (device_words dev ++ rest)
  device-lacks (Some dev) apart = words_differ (codes "dev") word apart
  device-lacks None apart = lacks

  user-lacks : (uid : Option ℕ) → IsApart (codes "uid") word → Lacks word (user_words uid ++ rest)
  user-lacks (Some uid) apart = words_differ (codes "uid") word apart
  user-lacks None apart = lacks

-- a socket's options from each of them on
abbrev pub from_noport : Options → List (List ℕ)
from_noport o = flag_words (codes "noport") o.noport

abbrev pub from_reuseport : Options → List (List ℕ)
from_reuseport o = flag_words (codes "reuseport") o.reuseport ++ from_noport o

abbrev pub from_reuseaddr : Options → List (List ℕ)
from_reuseaddr o = flag_words (codes "reuseaddr") o.reuseaddr ++ from_reuseport o

abbrev pub from_device : Options → List (List ℕ)
from_device o = device_words o.dev ++ from_reuseaddr o

abbrev pub from_user : Options → List (List ℕ)
from_user o = user_words o.uid ++ from_device o

-- all of them, one after the other
pub options_of : (o : Options) → option_words o ≡ namespace_words o.net ++ from_user o
options_of o =
    let nets = namespace_words o.net in
    let users = user_words o.uid in
    let devices = device_words o.dev in
    let addrs = flag_words (codes "reuseaddr") o.reuseaddr in
    append_assoc (nets ++ users ++ devices ++ addrs) (flag_words (codes "reuseport") o.reuseport) (from_noport o)
    ∙ append_assoc (nets ++ users ++ devices) addrs _ ∙ append_assoc (nets ++ users) devices _
    ∙ append_assoc nets users _

-- what follows an option doesn't begin as it does
module _ (o : Options) where
  noport-lacks : (word : List ℕ) → IsApart (codes "noport") word → Lacks word (from_noport o)
  noport-lacks word apart =
      elim o.noport as (λ set. Lacks word (flag_words (codes "noport") set)) [
        | true ↦ words_differ (codes "noport") word apart
        | false ↦ λ e. cc
      ]

  pub noport-lacks_reuseport : Lacks (codes "reuseport") (from_noport o)
  noport-lacks_reuseport = noport-lacks (codes "reuseport") refl

  reuseport-lacks : (word : List ℕ)
      → IsApart (codes "noport") word → IsApart (codes "reuseport") word → Lacks word (from_reuseport o)
  reuseport-lacks word late port = flag-lacks word _ (noport-lacks word late) (codes "reuseport") o.reuseport port

  pub reuseport-lacks_reuseaddr : Lacks (codes "reuseaddr") (from_reuseport o)
  reuseport-lacks_reuseaddr = reuseport-lacks (codes "reuseaddr") refl refl

  flags-lack : (word : List ℕ)
      → IsApart (codes "noport") word → IsApart (codes "reuseport") word → IsApart (codes "reuseaddr") word
      → Lacks word (from_reuseaddr o)
  flags-lack word late port addr =
      flag-lacks word _ (reuseport-lacks word late port) (codes "reuseaddr") o.reuseaddr addr

  pub flags-lack_dev : Lacks (codes "dev") (from_reuseaddr o)
  flags-lack_dev = flags-lack (codes "dev") refl refl refl

  pub rest-lacks_uid : Lacks (codes "uid") (from_device o)
  rest-lacks_uid = device-lacks (codes "uid") _ (flags-lack (codes "uid") refl refl refl) o.dev refl

  pub rest-lacks_net : Lacks (codes "net") (from_user o)
  rest-lacks_net =
      let devices = device-lacks (codes "net") _ (flags-lack (codes "net") refl refl refl) o.dev refl in
      user-lacks (codes "net") _ devices o.uid refl

-- nor is a namespace's a device's
pub namespace-lacks_dev : (net : Option ℕ) → slice_get (namespace_words net) 0 ≡ Some (codes "dev") → ⊥
namespace-lacks_dev (Some net) e = words_differ _ _ refl e
namespace-lacks_dev None e = cc

-- a flag with nothing after it
pub flag-last : (flag : List ℕ) (set : Bool) → flag_words flag set ≡ flag_words flag set ++ []
flag-last flag true = refl
flag-last flag false = refl

-- a namespace with nothing after it
pub namespace-last : (net : Option ℕ) → namespace_words net ≡ namespace_words net ++ []
namespace-last None = refl
namespace-last (Some net) = refl

-- a switch is a number to 1
pub switch_of : (n : ℕ) → n ≤ 1 → decimal n ≡ switch_word (n == 1)
switch_of zero le = decimal_digit 0 (omega arith)
switch_of (suc zero) le = decimal_digit 1 (omega arith)
switch_of (suc (suc n)) le = absurd (omega arith)

-- and is one by that number alone
pub number_of_switch : (reuse : Bool) → (n : ℕ) × (n ≤ 1) × (switch_word reuse ≡ decimal n)
number_of_switch true = (1, omega arith, sym (decimal_digit 1 (omega arith)))
number_of_switch false = (0, omega arith, sym (decimal_digit 0 (omega arith)))

pub one_switch : (r s : Bool) → switch_word r ≡ switch_word s → r ≡ s
one_switch true true e = refl
one_switch false false e = refl
one_switch true false e = absurd (words_differ _ _ refl (ap Some e))
one_switch false true e = absurd (words_differ _ _ refl (ap Some e))
