-- The text of a race is that of its rows.
use Rattle.std.proofs.Common.{◌≡◌, ℕ, ◌+◌, ◌/◌, ◌^◌, ◌==◌, Bool, true, false, List, [], ◌∷◌, ◌++◌, append_assoc, map, codes, decimal, Option, None, Some, if◌then◌else◌, refl, sym, ap, ◌∙◌}
use Rattle.std.specs.Option.{option_map}
use Rattle.std.specs.List.{flat_map}
use Rattle.inet_io.specs.Labels.{is_label}
use Rattle.list_words.specs.Lists.{Each}
use Rattle.inet_io.specs.Texts.{end_text}
use Rattle.sock_card.specs.declared.card.Kind.{Kind}
use Rattle.sock_card.specs.declared.card.Kind.TheVariants as kinds
use Rattle.sock_card.specs.declared.card.Card.{Card}
use Rattle.sock_card.specs.declared.card.Packet.{Packet}
use Rattle.chain_book.specs.declared.book.Change.{Change}
use Rattle.chain_book.specs.declared.book.PassEnd.{PassEnd}
use Rattle.chain_book.specs.declared.book.PassEnd.TheVariants as ends
use Rattle.chain_book.specs.declared.book.PacketAnswer.{PacketAnswer}
use Rattle.chain_book.specs.declared.book.PacketAnswer.TheVariants as answers
use Rattle.chain_book.specs.declared.shape.Shape.{Shape}
use Rattle.flat_list.specs.declared.command.Command.{Command}
use Rattle.sock_script.specs.Output as output
use Rattle.sock_script.specs.Output.{label_in, cut_text}
use Rattle.race_book.specs.declared.lives.Life.{Life}
use Rattle.race_record.specs.declared.record.Looked.{Looked}
use Rattle.race_record.specs.declared.record.Looked.TheVariants as looks
use Rattle.race_text.specs.Render as render
use Rattle.race_text.specs.Render.{race_line, shape_line, clock_line, journal_lines, unhash_text, pass_end_text}
use Rattle.record_reader.specs.declared.line.Line.{Line}
use Rattle.record_reader.specs.declared.line.Line.TheVariants as lines
use Rattle.record_reader.specs.Forms.{kind_word, race_words, shape_words, unhash_words, end_words}
use Rattle.race_laws.proofs.audits.Printed.{told_end}
use Rattle.race_laws.proofs.audits.Names.{name_text_is}
use Rattle.race_laws.proofs.audits.Rows.{Row, row_text, rows_text, spaced}
use Rattle.race_laws.proofs.audits.Trees.{Tree, leaf, node, ◌⊕◌, text_is}
use Rattle.race_laws.proofs.audits.Lines.{row, journals_from, cut_lines, item_row, life_line, item_line, packets_from}
use Rattle.book_audit.proofs.Lives.{span_of}

pub race_text : (lookers passes : ℕ) → race_line lookers passes ≡ row_text (row (lines.Race lookers passes))
race_text lookers passes =
    text_is (leaf (codes "race lookers ") ⊕ decimal lookers ⊕ codes " passes " ⊕ decimal passes ⊕ codes "\n")
    (race_words lookers passes) (codes "\n") refl

pub shape_text : (shape : Shape) (seed : ℕ) → shape_line shape seed ≡ row_text (row (lines.Shape shape seed))
shape_text shape seed =
    text_is (leaf (codes "shape ") ⊕ decimal shape.slots ⊕ codes " " ⊕ decimal shape.bind ⊕ codes " " ⊕ decimal shape.hash ⊕ codes " " ⊕ decimal shape.listen ⊕ codes " seed " ⊕ decimal seed ⊕ codes "\n")
    (shape_words shape seed) (codes "\n") refl

pub clock_text : (clock : ℕ) → clock_line clock ≡ row_text (row (lines.Clock clock))
clock_text clock = text_is (leaf (codes "clock ") ⊕ decimal clock ⊕ codes "\n") (codes "clock" ∷ decimal clock ∷ []) (codes "\n") refl

journal_row : (bucket count : ℕ) → codes "journal " ++ decimal bucket ++ codes " " ++ decimal count ++ codes "\n" ≡ row_text (row (lines.Journal bucket count))
journal_row bucket count =
    text_is (leaf (codes "journal ") ⊕ decimal bucket ⊕ codes " " ⊕ decimal count ⊕ codes "\n") (codes "journal" ∷ decimal bucket ∷ decimal count ∷ []) (codes "\n") refl

journals_by : (b : Bool) (one : Row) (text : List ℕ) (more : List ℕ) (rest : List Line) → text ≡ row_text one → more ≡ rows_text (map row rest) → (line : Line) → one ≡ row line
    → (if b then [] else text) ++ more ≡ rows_text (map row (if b then rest else line ∷ rest))
journals_by true one text more rest e f line g = f
journals_by false one text more rest e f line g = λ i. (e ∙ ap row_text g) i ++ f i

pub journals_text : (bucket : ℕ) (counts : List ℕ) → journal_lines bucket counts ≡ rows_text (map row (journals_from bucket counts))
journals_text bucket [] = refl
journals_text bucket (count ∷ rest) =
    journals_by (count == 0) (row (lines.Journal bucket count)) (codes "journal " ++ decimal bucket ++ codes " " ++ decimal count ++ codes "\n") (journal_lines (bucket + 1) rest) (journals_from (bucket + 1) rest)
    (journal_row bucket count) (journals_text (bucket + 1) rest) (lines.Journal bucket count) refl

pub cut_is : (cut : Bool) → cut_text cut ≡ rows_text (map row (cut_lines cut))
cut_is true = refl
cut_is false = refl

kind_is : (k : Kind) → output.kind_word k ≡ kind_word k
kind_is kinds.Full = refl
kind_is kinds.TimeWait = refl
kind_is kinds.Listen = refl
kind_is kinds.Request = refl

-- the words of a namespace, by whether there is one
abbrev net_told : Bool → List ℕ → List (List ℕ)
net_told b net = if b then [] else codes "net" ∷ net ∷ []

abbrev net_text : Bool → List ℕ → List ℕ
net_text b net = if b then [] else codes " net " ++ net

net_tree : Bool → List ℕ → Tree
net_tree true net = leaf []
net_tree false net = leaf (codes " net ") ⊕ net

unhash_tree : Option Change → Tree
unhash_tree None = leaf (codes "unhash -")
unhash_tree (Some u) = leaf (codes "unhash ") ⊕ decimal u.begin ⊕ codes " " ⊕ decimal u.end

-- a card's kind and name
card_tree : List ℕ → List ℕ → List ℕ → Tree
card_tree kind section label = leaf kind ⊕ codes " " ⊕ section ⊕ codes "." ⊕ label

life_tree : List ℕ → List ℕ → List ℕ → List ℕ → List ℕ → List ℕ → List ℕ → List ℕ → List ℕ → List ℕ → List ℕ → Bool → Option Change → Tree
life_tree bucket slot kind section label local remote dev net from to b o =
    node (node (leaf (codes "life ") ⊕ bucket ⊕ codes " " ⊕ slot ⊕ codes " ")
    (node (card_tree kind section label ⊕ codes " " ⊕ local ⊕ codes " " ⊕ remote) (node (leaf (codes " dev ") ⊕ dev) (net_tree b net))) ⊕ codes " ")
    (node (leaf (codes "hash ") ⊕ from ⊕ codes " " ⊕ to ⊕ codes " ") (unhash_tree o)) ⊕ codes "\n"

abbrev life_plain : List ℕ → List ℕ → List ℕ → List ℕ → List ℕ → List ℕ → List ℕ → List ℕ → List ℕ → List ℕ → List ℕ → Bool → Option Change → List ℕ
life_plain bucket slot kind section label local remote dev net from to b o =
    codes "life " ++ bucket ++ codes " " ++ slot ++ codes " " ++ ((kind ++ codes " " ++ section ++ codes "." ++ label) ++ codes " " ++ local ++ codes " " ++ remote ++ (codes " dev " ++ dev ++ net_text b net))
    ++ codes " " ++ (codes "hash " ++ from ++ codes " " ++ to ++ codes " " ++ unhash_text o) ++ codes "\n"

abbrev life_told : List ℕ → List ℕ → List ℕ → List ℕ → List ℕ → List ℕ → List ℕ → List ℕ → List ℕ → List ℕ → Bool → Option Change → List (List ℕ)
life_told bucket slot kind name local remote dev net from to b o =
    codes "life" ∷ bucket ∷ slot ∷ ((kind ∷ name ∷ local ∷ remote ∷ codes "dev" ∷ dev ∷ net_told b net) ++ (codes "hash" ∷ from ∷ to ∷ unhash_words (option_map span_of o)))

-- a name, from the right
name_then : (section label rest : List ℕ) → section ++ (codes "." ++ (label ++ rest)) ≡ (section ++ codes "." ++ label) ++ rest
name_then section label rest = sym (append_assoc (section ++ codes ".") label rest ∙ append_assoc section (codes ".") (label ++ rest))

-- a life's line, its words as they come
life_by : (bucket slot kind section label local remote dev net from to : List ℕ) (b : Bool) (o : Option Change)
    → life_plain bucket slot kind section label local remote dev net from to b o
    ≡ spaced (life_told bucket slot kind (section ++ codes "." ++ label) local remote dev net from to b o) ++ codes "\n"
unfolding life_tree card_tree net_tree unhash_tree
life_by bucket slot kind section label local remote dev net from to true None =
    text_is (life_tree bucket slot kind section label local remote dev net from to true None) (life_told bucket slot kind (section ++ codes "." ++ label) local remote dev net from to true None) (codes "\n")
    (ap (λ t. codes "life " ++ (bucket ++ 32 ∷ (slot ++ 32 ∷ (kind ++ 32 ∷ t)))) (name_then section label _))
life_by bucket slot kind section label local remote dev net from to true (Some u) =
    text_is (life_tree bucket slot kind section label local remote dev net from to true (Some u)) (life_told bucket slot kind (section ++ codes "." ++ label) local remote dev net from to true (Some u)) (codes "\n")
    (ap (λ t. codes "life " ++ (bucket ++ 32 ∷ (slot ++ 32 ∷ (kind ++ 32 ∷ t)))) (name_then section label _))
life_by bucket slot kind section label local remote dev net from to false None =
    text_is (life_tree bucket slot kind section label local remote dev net from to false None) (life_told bucket slot kind (section ++ codes "." ++ label) local remote dev net from to false None) (codes "\n")
    (ap (λ t. codes "life " ++ (bucket ++ 32 ∷ (slot ++ 32 ∷ (kind ++ 32 ∷ t)))) (name_then section label _))
life_by bucket slot kind section label local remote dev net from to false (Some u) =
    text_is (life_tree bucket slot kind section label local remote dev net from to false (Some u)) (life_told bucket slot kind (section ++ codes "." ++ label) local remote dev net from to false (Some u)) (codes "\n")
    (ap (λ t. codes "life " ++ (bucket ++ 32 ∷ (slot ++ 32 ∷ (kind ++ 32 ∷ t)))) (name_then section label _))

-- the first line of a dump
pub dump_text : (n count t0 t1 : ℕ)
    → decimal n ++ codes " dump " ++ decimal count ++ (codes " t0 " ++ decimal t0 ++ codes " t1 " ++ decimal t1) ++ codes "\n"
    ≡ spaced (decimal n ∷ codes "dump" ∷ decimal count ∷ codes "t0" ∷ decimal t0 ∷ codes "t1" ∷ decimal t1 ∷ []) ++ codes "\n"
dump_text n count t0 t1 =
    text_is (node (leaf (decimal n) ⊕ codes " dump " ⊕ decimal count) (leaf (codes " t0 ") ⊕ decimal t0 ⊕ codes " t1 " ⊕ decimal t1) ⊕ codes "\n")
    (decimal n ∷ codes "dump" ∷ decimal count ∷ codes "t0" ∷ decimal t0 ∷ codes "t1" ∷ decimal t1 ∷ []) (codes "\n") refl

-- and that of a socket that it lists
item_tree : List ℕ → List ℕ → List ℕ → List ℕ → List ℕ → List ℕ → List ℕ → List ℕ → Bool → Tree
item_tree n kind section label local remote dev net b =
    node (leaf n ⊕ codes " item ")
    (node (card_tree kind section label ⊕ codes " " ⊕ local ⊕ codes " " ⊕ remote) (node (leaf (codes " dev ") ⊕ dev) (net_tree b net))) ⊕ codes "\n"

item_by : (n kind section label local remote dev net : List ℕ) (b : Bool)
    → n ++ codes " item " ++ ((kind ++ codes " " ++ section ++ codes "." ++ label) ++ codes " " ++ local ++ codes " " ++ remote ++ (codes " dev " ++ dev ++ net_text b net)) ++ codes "\n"
    ≡ spaced (n ∷ codes "item" ∷ kind ∷ (section ++ codes "." ++ label) ∷ local ∷ remote ∷ codes "dev" ∷ dev ∷ net_told b net) ++ codes "\n"
unfolding item_tree card_tree net_tree
item_by n kind section label local remote dev net true =
    text_is (item_tree n kind section label local remote dev net true) (n ∷ codes "item" ∷ kind ∷ (section ++ codes "." ++ label) ∷ local ∷ remote ∷ codes "dev" ∷ dev ∷ net_told true net) (codes "\n")
    (ap (λ t. n ++ (codes " item " ++ (kind ++ 32 ∷ t))) (name_then section label _))
item_by n kind section label local remote dev net false =
    text_is (item_tree n kind section label local remote dev net false) (n ∷ codes "item" ∷ kind ∷ (section ++ codes "." ++ label) ∷ local ∷ remote ∷ codes "dev" ∷ dev ∷ net_told false net) (codes "\n")
    (ap (λ t. n ++ (codes " item " ++ (kind ++ 32 ∷ t))) (name_then section label _))

-- a packet's line, what came of it as it comes
packet_tree : List ℕ → Tree → List ℕ → List ℕ → List ℕ → List ℕ → List ℕ → List ℕ → Bool → Tree
packet_tree number answer t0 t1 src dst dev net b =
    node (leaf (codes "packet ") ⊕ number ⊕ codes " ")
    (node (node answer (leaf (codes " t0 ")) ⊕ t0 ⊕ codes " t1 " ⊕ t1 ⊕ codes " ")
    (node (leaf (codes "from ") ⊕ src ⊕ codes " to " ⊕ dst) (node (leaf (codes " dev ") ⊕ dev) (net_tree b net)))) ⊕ codes "\n"

abbrev packet_plain : List ℕ → List ℕ → List ℕ → List ℕ → List ℕ → List ℕ → List ℕ → List ℕ → Bool → List ℕ
packet_plain number answer t0 t1 src dst dev net b =
    codes "packet " ++ number ++ codes " " ++ (answer ++ codes " t0 " ++ t0 ++ codes " t1 " ++ t1 ++ codes " " ++ (codes "from " ++ src ++ codes " to " ++ dst ++ (codes " dev " ++ dev ++ net_text b net))) ++ codes "\n"

abbrev look_told : List ℕ → List ℕ → List ℕ → List ℕ → List ℕ → List ℕ → Bool → List (List ℕ)
look_told t0 t1 src dst dev net b =
    codes "t0" ∷ t0 ∷ codes "t1" ∷ t1 ∷ codes "from" ∷ src ∷ codes "to" ∷ dst ∷ codes "dev" ∷ dev ∷ net_told b net

found_by : (number kind section label t0 t1 src dst dev net : List ℕ) (b : Bool)
    → packet_plain number (kind ++ codes " " ++ section ++ codes "." ++ label) t0 t1 src dst dev net b
    ≡ spaced (codes "packet" ∷ number ∷ kind ∷ (section ++ codes "." ++ label) ∷ look_told t0 t1 src dst dev net b) ++ codes "\n"
unfolding packet_tree card_tree net_tree
found_by number kind section label t0 t1 src dst dev net true =
    text_is (packet_tree number (card_tree kind section label) t0 t1 src dst dev net true) (codes "packet" ∷ number ∷ kind ∷ (section ++ codes "." ++ label) ∷ look_told t0 t1 src dst dev net true) (codes "\n")
    (ap (λ t. codes "packet " ++ (number ++ 32 ∷ (kind ++ 32 ∷ t))) (name_then section label _))
found_by number kind section label t0 t1 src dst dev net false =
    text_is (packet_tree number (card_tree kind section label) t0 t1 src dst dev net false) (codes "packet" ∷ number ∷ kind ∷ (section ++ codes "." ++ label) ∷ look_told t0 t1 src dst dev net false) (codes "\n")
    (ap (λ t. codes "packet " ++ (number ++ 32 ∷ (kind ++ 32 ∷ t))) (name_then section label _))

none_by : (number t0 t1 src dst dev net : List ℕ) (b : Bool)
    → packet_plain number (codes "none") t0 t1 src dst dev net b
    ≡ spaced (codes "packet" ∷ number ∷ codes "none" ∷ look_told t0 t1 src dst dev net b) ++ codes "\n"
unfolding packet_tree net_tree
none_by number t0 t1 src dst dev net true =
    text_is (packet_tree number (leaf (codes "none")) t0 t1 src dst dev net true) (codes "packet" ∷ number ∷ codes "none" ∷ look_told t0 t1 src dst dev net true) (codes "\n") refl
none_by number t0 t1 src dst dev net false =
    text_is (packet_tree number (leaf (codes "none")) t0 t1 src dst dev net false) (codes "packet" ∷ number ∷ codes "none" ∷ look_told t0 t1 src dst dev net false) (codes "\n") refl

-- how a pass ended: its word, and its number
end_tree : List ℕ → List ℕ → List ℕ → Tree
end_tree word n bucket = node (leaf (codes "again ")) (leaf word ⊕ n) ⊕ codes " in " ⊕ bucket

again_by : (number bucket t0 t1 src dst dev net : List ℕ) (b : Bool) (e : PassEnd)
    → packet_plain number (codes "again " ++ pass_end_text e ++ codes " in " ++ bucket) t0 t1 src dst dev net b
    ≡ spaced (codes "packet" ∷ number ∷ codes "again" ∷ end_words (told_end e) (codes "in" ∷ bucket ∷ look_told t0 t1 src dst dev net b)) ++ codes "\n"
unfolding packet_tree end_tree net_tree
again_by number bucket t0 t1 src dst dev net true (ends.Foreign n) =
    text_is (packet_tree number (end_tree (codes "foreign ") (decimal n) bucket) t0 t1 src dst dev net true) (codes "packet" ∷ number ∷ codes "again" ∷ codes "foreign" ∷ decimal n ∷ codes "in" ∷ bucket ∷ look_told t0 t1 src dst dev net true) (codes "\n") refl
again_by number bucket t0 t1 src dst dev net true (ends.Dead n) =
    text_is (packet_tree number (end_tree (codes "dead ") (decimal n) bucket) t0 t1 src dst dev net true) (codes "packet" ∷ number ∷ codes "again" ∷ codes "dead" ∷ decimal n ∷ codes "in" ∷ bucket ∷ look_told t0 t1 src dst dev net true) (codes "\n") refl
again_by number bucket t0 t1 src dst dev net true (ends.Changed n) =
    text_is (packet_tree number (end_tree (codes "changed ") (decimal n) bucket) t0 t1 src dst dev net true) (codes "packet" ∷ number ∷ codes "again" ∷ codes "changed" ∷ decimal n ∷ codes "in" ∷ bucket ∷ look_told t0 t1 src dst dev net true) (codes "\n") refl
again_by number bucket t0 t1 src dst dev net true (ends.Long n) =
    text_is (packet_tree number (end_tree (codes "long ") (decimal n) bucket) t0 t1 src dst dev net true) (codes "packet" ∷ number ∷ codes "again" ∷ codes "long" ∷ decimal n ∷ codes "in" ∷ bucket ∷ look_told t0 t1 src dst dev net true) (codes "\n") refl
again_by number bucket t0 t1 src dst dev net false (ends.Foreign n) =
    text_is (packet_tree number (end_tree (codes "foreign ") (decimal n) bucket) t0 t1 src dst dev net false) (codes "packet" ∷ number ∷ codes "again" ∷ codes "foreign" ∷ decimal n ∷ codes "in" ∷ bucket ∷ look_told t0 t1 src dst dev net false) (codes "\n") refl
again_by number bucket t0 t1 src dst dev net false (ends.Dead n) =
    text_is (packet_tree number (end_tree (codes "dead ") (decimal n) bucket) t0 t1 src dst dev net false) (codes "packet" ∷ number ∷ codes "again" ∷ codes "dead" ∷ decimal n ∷ codes "in" ∷ bucket ∷ look_told t0 t1 src dst dev net false) (codes "\n") refl
again_by number bucket t0 t1 src dst dev net false (ends.Changed n) =
    text_is (packet_tree number (end_tree (codes "changed ") (decimal n) bucket) t0 t1 src dst dev net false) (codes "packet" ∷ number ∷ codes "again" ∷ codes "changed" ∷ decimal n ∷ codes "in" ∷ bucket ∷ look_told t0 t1 src dst dev net false) (codes "\n") refl
again_by number bucket t0 t1 src dst dev net false (ends.Long n) =
    text_is (packet_tree number (end_tree (codes "long ") (decimal n) bucket) t0 t1 src dst dev net false) (codes "packet" ∷ number ∷ codes "again" ∷ codes "long" ∷ decimal n ∷ codes "in" ∷ bucket ∷ look_told t0 t1 src dst dev net false) (codes "\n") refl

module _ (sections : List (List Command)) where
  abbrev pub Labelled : ℕ → Type 0
  Labelled name = is_label (label_in sections name) ≡ true

  life_text : (l : Life) → Labelled l.hash.card.name → render.life_line (label_in sections) l ≡ row_text (row (lines.Life (life_line sections l)))
  life_text l h =
      let c = l.hash.card in
      let label = label_in sections c.name in
      ap (λ k. codes "life " ++ decimal l.hash.bucket ++ codes " " ++ decimal l.hash.slot ++ codes " " ++ ((k ++ codes " " ++ decimal (c.name / 2 ^ 56) ++ codes "." ++ label) ++ codes " " ++ end_text c.local c.lport ++ codes " " ++ end_text c.remote c.rport ++ (codes " dev " ++ decimal c.dev ++ net_text (c.net == 0) (decimal c.net)))
      ++ codes " " ++ (codes "hash " ++ decimal l.hash.begin ++ codes " " ++ decimal l.hash.end ++ codes " " ++ unhash_text l.unhash) ++ codes "\n") (kind_is c.kind)
      ∙ life_by (decimal l.hash.bucket) (decimal l.hash.slot) (kind_word c.kind) (decimal (c.name / 2 ^ 56)) label (end_text c.local c.lport) (end_text c.remote c.rport) (decimal c.dev) (decimal c.net) (decimal l.hash.begin) (decimal l.hash.end) (c.net == 0) l.unhash
      ∙ ap (λ name. spaced (codes "life" ∷ decimal l.hash.bucket ∷ decimal l.hash.slot ∷ ((kind_word c.kind ∷ name ∷ end_text c.local c.lport ∷ end_text c.remote c.rport ∷ codes "dev" ∷ decimal c.dev ∷ net_told (c.net == 0) (decimal c.net)) ++ (codes "hash" ∷ decimal l.hash.begin ∷ decimal l.hash.end ∷ unhash_words (option_map span_of l.unhash)))) ++ codes "\n")
      (sym (name_text_is (c.name / 2 ^ 56) label h))

  item_text : (n : ℕ) (c : Card) → Labelled c.name → output.socket_line (label_in sections) n c ≡ row_text (item_row sections n c)
  item_text n c h =
      let label = label_in sections c.name in
      ap (λ k. decimal n ++ codes " item " ++ ((k ++ codes " " ++ decimal (c.name / 2 ^ 56) ++ codes "." ++ label) ++ codes " " ++ end_text c.local c.lport ++ codes " " ++ end_text c.remote c.rport ++ (codes " dev " ++ decimal c.dev ++ net_text (c.net == 0) (decimal c.net))) ++ codes "\n") (kind_is c.kind)
      ∙ item_by (decimal n) (kind_word c.kind) (decimal (c.name / 2 ^ 56)) label (end_text c.local c.lport) (end_text c.remote c.rport) (decimal c.dev) (decimal c.net) (c.net == 0)
      ∙ ap (λ name. spaced (decimal n ∷ codes "item" ∷ kind_word c.kind ∷ name ∷ end_text c.local c.lport ∷ end_text c.remote c.rport ∷ codes "dev" ∷ decimal c.dev ∷ net_told (c.net == 0) (decimal c.net)) ++ codes "\n") (sym (name_text_is (c.name / 2 ^ 56) label h))

  pub items_text : (n : ℕ) (cards : List Card) → Each (λ (c : Card). Labelled c.name) cards → flat_map (output.socket_line (label_in sections) n) cards ≡ rows_text (map (item_row sections n) cards)
  items_text n [] h = refl
  items_text n (c ∷ rest) h = λ i. item_text n c h.0 i ++ items_text n rest h.1 i

  pub lives_text : (lives : List Life) → Each (λ (l : Life). Labelled l.hash.card.name) lives → flat_map (render.life_line (label_in sections)) lives ≡ rows_text (map row (map (λ l. lines.Life (life_line sections l)) lives))
  lives_text [] h = refl
  lives_text (l ∷ rest) h = λ i. life_text l h.0 i ++ lives_text rest h.1 i

  -- a found socket has a label
  abbrev pub AnswerLabelled : PacketAnswer → Type 0
  AnswerLabelled (answers.Found card) = Labelled card.name
  AnswerLabelled answers.None = Unit {0}
  AnswerLabelled (answers.Again bucket end) = Unit {0}

  abbrev pub LookedLabelled : Looked → Type 0
  LookedLabelled (looks.Answered r) = AnswerLabelled r.answer
  LookedLabelled looks.Skip = Unit {0}
  LookedLabelled looks.Short = Unit {0}

  answer_row : (number : ℕ) (p : Packet) (t0 t1 seed : ℕ) (a : PacketAnswer) → AnswerLabelled a
      → render.looked_line (label_in sections) number (looks.Answered (record { packet = p; seed = seed; answer = a; t0 = t0; t1 = t1 })) ≡ row_text (row (lines.Packet number (item_line sections (looks.Answered (record { packet = p; seed = seed; answer = a; t0 = t0; t1 = t1 })))))
  answer_row number p t0 t1 seed (answers.Found c) h =
      let label = label_in sections c.name in
      ap (λ k. codes "packet " ++ decimal number ++ codes " " ++ ((k ++ codes " " ++ decimal (c.name / 2 ^ 56) ++ codes "." ++ label) ++ codes " t0 " ++ decimal t0 ++ codes " t1 " ++ decimal t1 ++ codes " " ++ (codes "from " ++ end_text p.src p.sport ++ codes " to " ++ end_text p.dst p.dport ++ (codes " dev " ++ decimal p.dev ++ net_text (p.net == 0) (decimal p.net)))) ++ codes "\n") (kind_is c.kind)
      ∙ found_by (decimal number) (kind_word c.kind) (decimal (c.name / 2 ^ 56)) label (decimal t0) (decimal t1) (end_text p.src p.sport) (end_text p.dst p.dport) (decimal p.dev) (decimal p.net) (p.net == 0)
      ∙ ap (λ name. spaced (codes "packet" ∷ decimal number ∷ kind_word c.kind ∷ name ∷ codes "t0" ∷ decimal t0 ∷ codes "t1" ∷ decimal t1 ∷ codes "from" ∷ end_text p.src p.sport ∷ codes "to" ∷ end_text p.dst p.dport ∷ codes "dev" ∷ decimal p.dev ∷ net_told (p.net == 0) (decimal p.net)) ++ codes "\n") (sym (name_text_is (c.name / 2 ^ 56) label h))
  answer_row number p t0 t1 seed answers.None h =
      none_by (decimal number) (decimal t0) (decimal t1) (end_text p.src p.sport) (end_text p.dst p.dport) (decimal p.dev) (decimal p.net) (p.net == 0)
  answer_row number p t0 t1 seed (answers.Again bucket e) h =
      again_by (decimal number) (decimal bucket) (decimal t0) (decimal t1) (end_text p.src p.sport) (end_text p.dst p.dport) (decimal p.dev) (decimal p.net) (p.net == 0) e

  looked_row : (number : ℕ) (looked : Looked) → LookedLabelled looked → render.looked_line (label_in sections) number looked ≡ row_text (row (lines.Packet number (item_line sections looked)))
  looked_row number (looks.Answered r) h = answer_row number r.packet r.t0 r.t1 r.seed r.answer h
  looked_row number looks.Skip h = simp append_assoc
  looked_row number looks.Short h = simp append_assoc

  pub looked_text : (number : ℕ) (looked : List Looked) → Each LookedLabelled looked → render.looked_lines (label_in sections) number looked ≡ rows_text (map row (packets_from sections number looked))
  looked_text number [] h = refl
  looked_text number (looked ∷ rest) h = λ i. looked_row number looked h.0 i ++ looked_text (number + 1) rest h.1 i
