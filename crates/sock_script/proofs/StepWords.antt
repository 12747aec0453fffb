-- The words of a step's lines are those of its commands, and are clear.
use Rattle.std.proofs.Common.{◌≡◌, ℕ, zero, suc, ◌+◌, ◌/◌, ◌%◌, ◌^◌, ◌<◌, ◌≤◌, ◌∙◌, List, [], ◌∷◌, ◌++◌, append_assoc, length, length-append, map, true, ◌&&◌, nat_lt, IsTrue, codes, decimal, arith, refl, sym, ap}
use Rattle.std.specs.List.{list_all, slice_index_or}
use Rattle.std.specs.Fmt.{digits}
use Rattle.std.proofs.lemmas.Bool.{and_from, and_parts, ltb-true, le-leb}
use Rattle.std.proofs.lemmas.Fmt.{decimal_by_steps, decimal_nonempty, length-decimal-le}
use Rattle.std.proofs.lemmas.List.Folds.{list_all-append}
use Rattle.list_words.proofs.EachLemmas.{each_append, each_push}
use Rattle.inet_io.specs.Texts.{addr_text, end_text}
use Rattle.sock_script.specs.Forms.{command_words}
use Rattle.inet_io.specs.Labels.{is_label, is_label_byte}
use Rattle.sock_script.specs.Make.{step_label, last_number, step_port, chosen_step, remote_port, lines_by_remainder}
use Rattle.sock_script.specs.MadeCommands.{local_addr, commands_by_remainder}
use Rattle.sock_script.proofs.SpacedWords.{IsClear, IsClearWord}

-- ten and zero as texts
ten_text : decimal 10 ≡ codes "10"
unfolding digits
ten_text = refl

zero_text : decimal 0 ≡ codes "0"
unfolding digits
zero_text = refl

one_text : decimal 1 ≡ codes "1"
unfolding digits
one_text = refl

-- four numbers with dots between them
dotted : ℕ → ℕ → ℕ → ℕ → List ℕ
dotted a b c d = decimal a ++ codes "." ++ decimal b ++ codes "." ++ decimal c ++ codes "." ++ decimal d

dotted_addr : (n a b c d : ℕ) → n / 2 ^ 24 ≡ a → n / 2 ^ 16 % 256 ≡ b → n / 2 ^ 8 % 256 ≡ c → n % 256 ≡ d → addr_text n ≡ dotted a b c d
unfolding dotted
dotted_addr n a b c d ea eb ec ed = rw (ea, eb, ec, ed) refl

ten_dotted : (c : ℕ) (cs : List ℕ) (d : ℕ) → decimal c ≡ cs → dotted 10 0 c d ≡ codes "10.0." ++ cs ++ codes "." ++ decimal d
unfolding dotted
ten_dotted c cs d e = rw (ten_text, zero_text, e) refl

-- an address of 10.0.0.0/24
pub local_text : (d : ℕ) → d < 256 → addr_text (local_addr d) ≡ codes "10.0.0." ++ decimal d
local_text d lt =
    dotted_addr (local_addr d) 10 0 0 d (omega arith) (omega arith) (omega arith) (omega arith) ∙ ten_dotted 0 (codes "0") d zero_text

-- and of 10.0.1.0/24
far_text : (d : ℕ) → d < 256 → addr_text (local_addr (256 + d)) ≡ codes "10.0.1." ++ decimal d
far_text d lt =
    dotted_addr (local_addr (256 + d)) 10 0 1 d (omega arith) (omega arith) (omega arith) (omega arith) ∙ ten_dotted 1 (codes "1") d one_text

-- an address with a port behind a colon is an end
end_is : (addr port : ℕ) (text : List ℕ) → addr_text addr ≡ text → text ++ (codes ":" ++ decimal port) ≡ end_text addr port
end_is addr port text e =
    ap (λ t. t ++ (codes ":" ++ decimal port)) (sym e) ∙ sym (append_assoc (addr_text addr) (codes ":") (decimal port))

any_text : addr_text 0 ≡ codes "0.0.0.0"
unfolding digits
any_text = refl

server_text : addr_text (local_addr 257) ≡ codes "10.0.1.1"
server_text = far_text 1 (omega arith) ∙ ap (λ t. codes "10.0.1." ++ t) one_text

two_text : decimal 2 ≡ codes "2"
unfolding digits
two_text = refl

client_text : addr_text (local_addr 258) ≡ codes "10.0.1.2"
client_text = far_text 2 (omega arith) ∙ ap (λ t. codes "10.0.1." ++ t) two_text

module _ (i w : ℕ) where
  abbrev addr_word : List ℕ
  addr_word = codes "10.0.0." ++ decimal (last_number w)

  addr_spelled : addr_text (local_addr (last_number w)) ≡ addr_word
  addr_spelled = local_text (last_number w) (omega arith)

  here_spelled : addr_word ++ (codes ":" ++ decimal (step_port w)) ≡ end_text (local_addr (last_number w)) (step_port w)
  here_spelled = end_is _ _ _ addr_spelled

  no_port_spelled : addr_word ++ codes ":0" ≡ end_text (local_addr (last_number w)) 0
  no_port_spelled = ap (λ t. addr_word ++ (codes ":" ++ t)) (sym zero_text) ∙ end_is _ 0 _ addr_spelled

  any_spelled : codes "0.0.0.0" ++ (codes ":" ++ decimal (step_port w)) ≡ end_text 0 (step_port w)
  any_spelled = end_is 0 _ _ any_text

  server_spelled : codes "10.0.1.1" ++ (codes ":" ++ decimal (step_port w)) ≡ end_text (local_addr 257) (step_port w)
  server_spelled = end_is (local_addr 257) (step_port w) (codes "10.0.1.1") server_text

  client_spelled : codes "10.0.1.2:" ++ decimal (remote_port i) ≡ end_text (local_addr 258) (remote_port i)
  client_spelled = end_is (local_addr 258) (remote_port i) (codes "10.0.1.2") client_text

  -- the words of a step's lines are those of its commands
  pub spelled : (k : ℕ) → k < 8 → slice_index_or (lines_by_remainder i w) k [] ≡ map command_words (slice_index_or (commands_by_remainder i w) k [])
  spelled zero lt =
      ap (λ e. (codes "socket" ∷ step_label i ∷ codes "reuseaddr" ∷ []) ∷ (codes "bind" ∷ step_label i ∷ e ∷ []) ∷ []) any_spelled
  spelled (suc zero) lt =
      ap (λ e. (codes "socket" ∷ step_label i ∷ codes "reuseport" ∷ []) ∷ (codes "bind" ∷ step_label i ∷ e ∷ []) ∷ (codes "listen" ∷ step_label i ∷ []) ∷ []) here_spelled
  spelled (suc (suc zero)) lt =
      ap (λ e. (codes "socket" ∷ step_label i ∷ []) ∷ (codes "bind" ∷ step_label i ∷ e ∷ []) ∷ (codes "listen" ∷ step_label i ∷ []) ∷ []) no_port_spelled
  spelled (suc (suc (suc zero))) lt =
      ap (λ a. (codes "socket" ∷ step_label i ∷ []) ∷ (codes "connect" ∷ step_label i ∷ codes "from" ∷ a ∷ codes "to" ∷ (codes "10.0.1.1" ++ (codes ":" ++ decimal (step_port w))) ∷ []) ∷ []) (sym addr_spelled)
      ∙ ap (λ e. (codes "socket" ∷ step_label i ∷ []) ∷ (codes "connect" ∷ step_label i ∷ codes "from" ∷ addr_text (local_addr (last_number w)) ∷ codes "to" ∷ e ∷ []) ∷ []) server_spelled
  spelled (suc (suc (suc (suc zero)))) lt =
      ap (λ r. (codes "accept" ∷ step_label (chosen_step i w) ∷ step_label i ∷ codes "from" ∷ r ∷ codes "at" ∷ (addr_word ++ (codes ":" ++ decimal (step_port w))) ∷ []) ∷ []) client_spelled
      ∙ ap (λ e. (codes "accept" ∷ step_label (chosen_step i w) ∷ step_label i ∷ codes "from" ∷ end_text (local_addr 258) (remote_port i) ∷ codes "at" ∷ e ∷ []) ∷ []) here_spelled
  spelled (suc (suc (suc (suc (suc zero))))) lt = refl
  spelled (suc (suc (suc (suc (suc (suc zero)))))) lt =
      ap (λ r. (codes "look" ∷ r ∷ (addr_word ++ (codes ":" ++ decimal (step_port w))) ∷ []) ∷ []) client_spelled
      ∙ ap (λ e. (codes "look" ∷ end_text (local_addr 258) (remote_port i) ∷ e ∷ []) ∷ []) here_spelled
  spelled (suc (suc (suc (suc (suc (suc (suc zero))))))) lt = refl
  spelled (suc (suc (suc (suc (suc (suc (suc (suc k)))))))) lt = absurd (omega arith)

-- a text whose bytes pass the test is clear
clear_text : (text : List ℕ) → list_all (nat_lt 32) text ≡ true → IsClear text
clear_text [] h = tt
clear_text (b ∷ bs) h = let parts = and_parts (nat_lt 32 b) (list_all (nat_lt 32) bs) h in (ltb-true 32 b parts.0, clear_text bs parts.1)

-- and a word, where there is a byte
pub clear_word : (text : List ℕ) → (nat_lt 0 (length text) && list_all (nat_lt 32) text) ≡ true → IsClearWord text
clear_word text h =
    let parts = and_parts (nat_lt 0 (length text)) (list_all (nat_lt 32) text) h in
    record { some = ltb-true 0 (length text) parts.0; clear = clear_text text parts.1 }

-- more that is clear
clear_more : (xs ys : List ℕ) → IsClearWord xs → IsClear ys → IsClearWord (xs ++ ys)
clear_more xs ys h k =
    let some : 0 < length xs = h.some in
    record { some = omega (arith, length-append xs ys); clear = each_append (λ b. 32 < b) xs ys h.clear k }

-- a number is clear
pub clear_number : (n : ℕ) → n < 2 ^ 64 → IsClearWord (decimal n)
clear_number n fits = record {
  some = decimal_nonempty n fits;
  clear = decimal_by_steps (λ n ds. IsClear ds) (λ n lt. (omega arith, tt)) (λ n ds le h. each_push (λ b. 32 < b) ds (48 + n % 10) h (omega arith)) n fits;
}

-- a label is
pub clear_label : (i : ℕ) → i < 2 ^ 64 → IsClearWord (step_label i)
clear_label i fits = clear_more (codes "s") (decimal i) (clear_word (codes "s") refl) (clear_number i fits).clear

-- an address is
pub clear_addr : (n : ℕ) → n < 2 ^ 32 → IsClearWord (addr_text n)
clear_addr n fits =
    let dot : IsClear (codes ".") = clear_text (codes ".") refl in
    clear_more _ _ (clear_more _ _ (clear_more _ _ (clear_more _ _ (clear_more _ _ (clear_more _ _
    (clear_number (n / 2 ^ 24) (omega arith)) dot) (clear_number (n / 2 ^ 16 % 256) (omega arith)).clear) dot)
    (clear_number (n / 2 ^ 8 % 256) (omega arith)).clear) dot) (clear_number (n % 256) (omega arith)).clear

-- and an end
pub clear_end : (addr port : ℕ) → addr < 2 ^ 32 → port < 2 ^ 16 → IsClearWord (end_text addr port)
clear_end addr port a p =
    clear_more _ _ (clear_more _ _ (clear_addr addr a) (clear_text (codes ":") refl)) (clear_number port (omega arith)).clear

-- a digit may stand in a label
digit_label : (n : ℕ) → n < 10 → is_label_byte (48 + n) ≡ true
digit_label zero lt = refl
digit_label (suc zero) lt = refl
digit_label (suc (suc zero)) lt = refl
digit_label (suc (suc (suc zero))) lt = refl
digit_label (suc (suc (suc (suc zero)))) lt = refl
digit_label (suc (suc (suc (suc (suc zero))))) lt = refl
digit_label (suc (suc (suc (suc (suc (suc zero)))))) lt = refl
digit_label (suc (suc (suc (suc (suc (suc (suc zero))))))) lt = refl
digit_label (suc (suc (suc (suc (suc (suc (suc (suc zero)))))))) lt = refl
digit_label (suc (suc (suc (suc (suc (suc (suc (suc (suc zero))))))))) lt = refl
digit_label (suc (suc (suc (suc (suc (suc (suc (suc (suc (suc n)))))))))) lt = absurd (omega arith)

-- so a number may
number_label : (n : ℕ) → n < 2 ^ 64 → list_all is_label_byte (decimal n) ≡ true
number_label n fits =
    decimal_by_steps (λ n ds. list_all is_label_byte ds ≡ true)
    (λ n lt. and_from _ true (digit_label n lt) refl)
    (λ n ds le h. list_all-append is_label_byte ds ((48 + n % 10) ∷ []) ∙ and_from _ _ h (and_from _ true (digit_label (n % 10) (omega arith)) refl))
    n fits

-- the labels of steps are labels
pub label_fits : (i : ℕ) → i < 10 ^ 15 → IsTrue (is_label (step_label i))
label_fits i fits =
    let short : length (decimal i) ≤ 15 = length-decimal-le 15 i (omega arith) fits (omega arith) in
    and_from _ _ (and_from _ _ (le-leb 1 (length (step_label i)) (omega arith)) (le-leb (length (step_label i)) 16 (omega arith)))
    (and_from (is_label_byte 115) _ refl (number_label i (omega arith)))
