-- Words have one form at most.
use Rattle.std.proofs.Common.{◌≡◌, ℕ, ◌∙◌, List, [], ◌∷◌, ◌++◌, Bool, true, false, Option, Some, None, cond, ◌==◌, codes, slice_get, arith, sym, refl, ap}
use Rattle.std.proofs.lemmas.Fmt.{decimal_injective}
use Rattle.flat_list.specs.declared.command.End.{End}
use Rattle.flat_list.specs.declared.command.Query.{Query}
use Rattle.flat_list.specs.declared.owned.Options.{Options}
use Rattle.flat_list.specs.declared.command.Command.{Command}
use Rattle.flat_list.specs.declared.command.Command.TheVariants as commands
use Rattle.chain_book.specs.declared.shape.Shape.{Shape}
use Rattle.flat_list.specs.declared.header.Range.{Range}
use Rattle.flat_list.specs.declared.header.Reserved.{Reserved}
use Rattle.sock_script.specs.declared.line.Line.{Line}
use Rattle.sock_script.specs.declared.line.Line.TheVariants as lines
use Rattle.chain_book.specs.Shapes.{ShapeFits}
use Rattle.sock_script.specs.Forms.{HasForm, command_words, option_words, CommandFits, EndFits, NamespaceFits, DeviceFits, SourceFits, RangeFits, range_words, shape_words, UserFits, namespace_words, user_words, device_words, flag_words, source_words, ends_words}
use Rattle.sock_script.proofs.ReservedPorts.{one_reserved}
use Rattle.sock_script.proofs.Verbs.{word_code, verb_code, never}
use Rattle.sock_script.proofs.Words.{second_is, third_is, past_one, past_two, past_three, options_of, rest-lacks_net, rest-lacks_uid, flags-lack_dev, namespace-lacks_dev, reuseport-lacks_reuseaddr, noport-lacks_reuseport, Lacks, flag-last, namespace-last, one_switch}
use Rattle.inet_io.specs.Texts.{end_text}
use Rattle.inet_io.proofs.EndTexts.{addr_text_injective, end_text_injective}

-- an optional device is read in one way
one_device : (d e : Option ℕ) (vs ws : List (List ℕ)) → DeviceFits d → DeviceFits e → Lacks (codes "dev") vs → Lacks (codes "dev") ws → device_words d ++ vs ≡ device_words e ++ ws → (d ≡ e) × (vs ≡ ws)
one_device None None vs ws x y p q h = (refl, h)
one_device None (Some e) vs ws x y p q h = absurd (p (ap (λ w. slice_get w 0) h))
one_device (Some d) None vs ws x y p q h = absurd (q (ap (λ w. slice_get w 0) (sym h)))
one_device (Some d) (Some e) vs ws x y p q h =
    (ap Some (decimal_injective d e (omega arith) (omega arith) (second_is _ _ _ _ _ _ h)), past_two _ _ _ _ _ _ h)

-- and so is an optional user
one_user : (d e : Option ℕ) (vs ws : List (List ℕ)) → UserFits d → UserFits e → Lacks (codes "uid") vs → Lacks (codes "uid") ws → user_words d ++ vs ≡ user_words e ++ ws → (d ≡ e) × (vs ≡ ws)
one_user None None vs ws x y p q h = (refl, h)
one_user None (Some e) vs ws x y p q h = absurd (p (ap (λ w. slice_get w 0) h))
one_user (Some d) None vs ws x y p q h = absurd (q (ap (λ w. slice_get w 0) (sym h)))
one_user (Some d) (Some e) vs ws x y p q h =
    (ap Some (decimal_injective d e (omega arith) (omega arith) (second_is _ _ _ _ _ _ h)), past_two _ _ _ _ _ _ h)

-- and an optional namespace
one_namespace : (d e : Option ℕ) (vs ws : List (List ℕ)) → NamespaceFits d → NamespaceFits e → Lacks (codes "net") vs → Lacks (codes "net") ws → namespace_words d ++ vs ≡ namespace_words e ++ ws → (d ≡ e) × (vs ≡ ws)
one_namespace None None vs ws x y p q h = (refl, h)
one_namespace None (Some e) vs ws x y p q h = absurd (p (ap (λ w. slice_get w 0) h))
one_namespace (Some d) None vs ws x y p q h = absurd (q (ap (λ w. slice_get w 0) (sym h)))
one_namespace (Some d) (Some e) vs ws x y p q h =
    (ap Some (decimal_injective d e (omega arith) (omega arith) (second_is _ _ _ _ _ _ h)), past_two _ _ _ _ _ _ h)

-- and so is a flag
one_flag : (flag : List ℕ) (r s : Bool) (vs ws : List (List ℕ)) → Lacks flag vs → Lacks flag ws → flag_words flag r ++ vs ≡ flag_words flag s ++ ws → (r ≡ s) × (vs ≡ ws)
one_flag flag false false vs ws p q h = (refl, h)
one_flag flag true true vs ws p q h = (refl, cc)
one_flag flag false true vs ws p q h = absurd (p (ap (λ w. slice_get w 0) h))
one_flag flag true false vs ws p q h = absurd (q (ap (λ w. slice_get w 0) (sym h)))

-- and the address behind `from`
one_source : (d e : Option ℕ) (vs ws : List (List ℕ)) → SourceFits d → SourceFits e → Lacks (codes "from") vs → Lacks (codes "from") ws → source_words d ++ vs ≡ source_words e ++ ws → (d ≡ e) × (vs ≡ ws)
one_source None None vs ws x y p q h = (refl, h)
one_source None (Some e) vs ws x y p q h = absurd (p (ap (λ w. slice_get w 0) h))
one_source (Some d) None vs ws x y p q h = absurd (q (ap (λ w. slice_get w 0) (sym h)))
one_source (Some d) (Some e) vs ws x y p q h =
    (ap Some (addr_text_injective d e x y (second_is _ _ _ _ _ _ h)), past_two _ _ _ _ _ _ h)

-- an end is read in one way
one_end : (e f : End) → EndFits e → EndFits f → end_text e.addr e.port ≡ end_text f.addr f.port → e ≡ f
one_end e f x y h =
    let both = end_text_injective e.addr e.port f.addr f.port x.0 y.0 x.1 y.1 h in
    let P : ℕ → ℕ → End = λ a p. record { addr = a; port = p } in
    ap (λ a. P a e.port) both.0 ∙ ap (P f.addr) both.1

-- so are a socket's options, and the words of each command that has more than a label
one_options : (a b : Options) → NamespaceFits a.net × UserFits a.uid × DeviceFits a.dev → NamespaceFits b.net × UserFits b.uid × DeviceFits b.dev → option_words a ≡ option_words b → a ≡ b
one_options a b x y h =
    let words = sym (options_of a) ∙ h ∙ options_of b in
    let net = one_namespace a.net b.net _ _ x.0 y.0 (rest-lacks_net a) (rest-lacks_net b) words in
    let uid = one_user a.uid b.uid _ _ x.1 y.1 (rest-lacks_uid a) (rest-lacks_uid b) net.1 in
    let dev = one_device a.dev b.dev _ _ x.2 y.2 (flags-lack_dev a) (flags-lack_dev b) uid.1 in
    let addr = one_flag _ a.reuseaddr b.reuseaddr _ _ (reuseport-lacks_reuseaddr a) (reuseport-lacks_reuseaddr b) dev.1 in
    let port = one_flag _ a.reuseport b.reuseport _ _ (noport-lacks_reuseport a) (noport-lacks_reuseport b) addr.1 in
    let late = one_flag _ a.noport b.noport [] [] (λ w. cc) (λ w. cc) (sym (flag-last _ a.noport) ∙ port.1 ∙ flag-last _ b.noport) in
    let P : Option ℕ → Option ℕ → Option ℕ → Bool → Bool → Bool → Options = λ n u d r s l. record { net = n; uid = u; dev = d; reuseaddr = r; reuseport = s; noport = l } in
    ap (λ t. P t a.uid a.dev a.reuseaddr a.reuseport a.noport) net.0 ∙ ap (λ t. P b.net t a.dev a.reuseaddr a.reuseport a.noport) uid.0
    ∙ ap (λ t. P b.net b.uid t a.reuseaddr a.reuseport a.noport) dev.0 ∙ ap (λ t. P b.net b.uid b.dev t a.reuseport a.noport) addr.0
    ∙ ap (λ t. P b.net b.uid b.dev b.reuseaddr t a.noport) port.0 ∙ ap (P b.net b.uid b.dev b.reuseaddr b.reuseport) late.0

one_connect : (l m : List ℕ) (d e : Option ℕ) (a b : End) → CommandFits (commands.Connect l d a) → CommandFits (commands.Connect m e b) → command_words (commands.Connect l d a) ≡ command_words (commands.Connect m e b) → commands.Connect l d a ≡ commands.Connect m e b
one_connect l m d e a b x y h =
    let label = second_is _ _ _ _ _ _ h in
    let from = one_source d e _ _ x.1 y.1 (λ w. cc) (λ w. cc) (past_two _ _ _ _ _ _ h) in
    let to = one_end a b x.2 y.2 (second_is _ _ _ _ _ _ from.1) in
    ap (λ t. commands.Connect t d a) label ∙ ap (λ t. commands.Connect m t a) from.0 ∙ ap (commands.Connect m e) to

newcomer_texts : (verb from at p q u v i j m n : List ℕ) → verb ∷ p ∷ q ∷ from ∷ u ∷ at ∷ v ∷ [] ≡ verb ∷ i ∷ j ∷ from ∷ m ∷ at ∷ n ∷ []
    → (p ≡ i) × (q ≡ j) × (u ≡ m) × (v ≡ n)
newcomer_texts verb from at p q u v i j m n e = (cc, cc, cc, cc)

-- the labels and ends of an accept or a syn
one_newcomer : (verb k l m n : List ℕ) (a b c d : End) → EndFits a → EndFits b → EndFits c → EndFits d → verb ∷ k ∷ l ∷ ends_words a b ≡ verb ∷ m ∷ n ∷ ends_words c d
    → (k ≡ m) × (l ≡ n) × (a ≡ c) × (b ≡ d)
one_newcomer verb k l m n a b c d fa fb fc fd h =
    let words = newcomer_texts _ _ _ _ _ _ _ _ _ _ _ h in
    (words.0, words.1, one_end a c fa fc words.2, one_end b d fb fd words.3)

one_look : (a b : Query) → CommandFits (commands.Look a) → CommandFits (commands.Look b) → command_words (commands.Look a) ≡ command_words (commands.Look b) → a ≡ b
one_look a b x y h =
    let from = one_end a.from b.from x.0 y.0 (second_is _ _ _ _ _ _ h) in
    let to = one_end a.to b.to x.1 y.1 (third_is _ _ _ _ _ _ _ _ h) in
    let dev = one_device a.dev b.dev _ _ x.2 y.2 (namespace-lacks_dev a.net) (namespace-lacks_dev b.net) (past_three _ _ _ _ _ _ _ _ h) in
    let net = one_namespace a.net b.net [] [] x.3 y.3 (λ w. cc) (λ w. cc) (sym (namespace-last a.net) ∙ dev.1 ∙ namespace-last b.net) in
    let P : End → End → Option ℕ → Option ℕ → Query = λ f t d n. record { from = f; to = t; dev = d; net = n } in
    ap (λ t. P t a.to a.dev a.net) from ∙ ap (λ t. P b.from t a.dev a.net) to
    ∙ ap (λ t. P b.from b.to t a.net) dev.0 ∙ ap (P b.from b.to b.dev) net.0

-- a command's words are no other's
one_command : (c k : Command) → command_words c ≡ command_words k → CommandFits c → CommandFits k → c ≡ k
one_command (commands.Socket l a) (commands.Socket m b) h x y =
    ap (λ t. commands.Socket t a) (second_is _ _ _ _ _ _ h)
    ∙ ap (commands.Socket m) (one_options a b (x.1, x.2, x.3) (y.1, y.2, y.3) (past_two _ _ _ _ _ _ h))
one_command (commands.Bind l e) (commands.Bind m f) h x y =
    ap (λ t. commands.Bind t e) (second_is _ _ _ _ _ _ h) ∙ ap (commands.Bind m) (one_end e f x.1 y.1 (third_is _ _ _ _ _ _ _ _ h))
one_command (commands.Listen l) (commands.Listen m) h x y = ap commands.Listen (second_is _ _ _ _ _ _ h)
one_command (commands.Connect l d a) (commands.Connect m e b) h x y = one_connect l m d e a b x y h
one_command (commands.Accept k l a b) (commands.Accept m n c d) h x y =
    let t = one_newcomer _ k l m n a b c d x.2 x.3 y.2 y.3 h in λ i. commands.Accept (t.0 i) (t.1 i) (t.2 i) (t.3 i)
one_command (commands.Syn k l a b) (commands.Syn m n c d) h x y =
    let t = one_newcomer _ k l m n a b c d x.2 x.3 y.2 y.3 h in λ i. commands.Syn (t.0 i) (t.1 i) (t.2 i) (t.3 i)
one_command (commands.Ack k l) (commands.Ack m n) h x y =
    ap (λ t. commands.Ack t l) (second_is _ _ _ _ _ _ h) ∙ ap (commands.Ack m) (third_is _ _ _ _ _ _ _ _ h)
one_command (commands.Close l) (commands.Close m) h x y = ap commands.Close (second_is _ _ _ _ _ _ h)
one_command (commands.Drop l) (commands.Drop m) h x y = ap commands.Drop (second_is _ _ _ _ _ _ h)
one_command (commands.At m) (commands.At n) h x y = ap commands.At (decimal_injective m n (omega arith) (omega arith) (second_is _ _ _ _ _ _ h))
one_command commands.Reap commands.Reap h x y = refl
one_command (commands.Look a) (commands.Look b) h x y = ap commands.Look (one_look a b x y h)
one_command (commands.Packets m) (commands.Packets n) h x y = ap commands.Packets (decimal_injective m n (omega arith) (omega arith) (second_is _ _ _ _ _ _ h))
one_command commands.Dump commands.Dump h x y = refl
one_command c k h x y = absurd (never (verb_code (command_words c)) (verb_code (command_words k)) (ap verb_code h) refl)

-- the numbers of a table line
shape_texts : (t s b h l : List ℕ) (p q u v i j m n : List ℕ) → t ∷ s ∷ p ∷ b ∷ q ∷ h ∷ u ∷ l ∷ v ∷ [] ≡ t ∷ s ∷ i ∷ b ∷ j ∷ h ∷ m ∷ l ∷ n ∷ []
    → (p ≡ i) × (q ≡ j) × (u ≡ m) × (v ≡ n)
shape_texts t s b h l p q u v i j m n e = (cc, cc, cc, cc)

-- a shape's words are no other's
one_shape : (a b : Shape) → ShapeFits a → ShapeFits b → shape_words a ≡ shape_words b → a ≡ b
one_shape a b x y h =
    let words = shape_texts _ _ _ _ _ _ _ _ _ _ _ _ _ h in
    let slots = decimal_injective a.slots b.slots (omega (arith, x.slots.1)) (omega (arith, y.slots.1)) words.0 in
    let bind = decimal_injective a.bind b.bind (omega (arith, x.bind.1)) (omega (arith, y.bind.1)) words.1 in
    let hash = decimal_injective a.hash b.hash (omega (arith, x.hash.1)) (omega (arith, y.hash.1)) words.2 in
    let listen = decimal_injective a.listen b.listen (omega (arith, x.listen.1)) (omega (arith, y.listen.1)) words.3 in
    let P : ℕ → ℕ → ℕ → ℕ → Shape = λ s t u v. record { slots = s; bind = t; hash = u; listen = v } in
    ap (λ s. P s a.bind a.hash a.listen) slots ∙ ap (λ t. P b.slots t a.hash a.listen) bind
    ∙ ap (λ u. P b.slots b.bind u a.listen) hash ∙ ap (P b.slots b.bind b.hash) listen

-- and a range's
one_range : (a b : Range) → RangeFits a → RangeFits b → range_words a ≡ range_words b → a ≡ b
one_range a b x y h =
    let low = decimal_injective a.low b.low (omega (arith, x.order, x.high)) (omega (arith, y.order, y.high)) (second_is _ _ _ _ _ _ h) in
    let high = decimal_injective a.high b.high (omega (arith, x.high)) (omega (arith, y.high)) (third_is _ _ _ _ _ _ _ _ h) in
    let P : ℕ → ℕ → Reserved → Range = λ l h r. record { low = l; high = h; reserved = r } in
    ap (λ l. P l a.high a.reserved) low ∙ ap (λ t. P b.low t a.reserved) high ∙ ap (P b.low b.high) (x.reserved ∙ sym y.reserved)

-- the kind of line that a first word begins: 1 a table's, 2 a section's, 3 a range's, 4 a seed's, 5 an offset's, 6 a
-- switch's, 8 a capture's, 9 reserved ports', 7 a command
abbrev verb_kind : ℕ → ℕ
verb_kind verb =
    cond (verb == word_code 0 (codes "table")) 1
    (cond (verb == word_code 0 (codes "script")) 2
    (cond (verb == word_code 0 (codes "range")) 3
    (cond (verb == word_code 0 (codes "seed")) 4
    (cond (verb == word_code 0 (codes "offset")) 5
    (cond (verb == word_code 0 (codes "twreuse")) 6
    (cond (verb == word_code 0 (codes "reserved")) 9
    (cond (verb == word_code 0 (codes "capture")) 8 7)))))))

-- the kind of line that words are, where 0 is a line that is passed over
abbrev words_kind : List (List ℕ) → ℕ
words_kind [] = 0
words_kind ([] ∷ ws) = 0
words_kind ((b ∷ bs) ∷ ws) = cond (b == 35) 0 (verb_kind (word_code 0 (b ∷ bs)))

-- the same of a line
abbrev line_kind : Line → ℕ
line_kind lines.PassedOver = 0
line_kind (lines.Table shape) = 1
line_kind (lines.Section number) = 2
line_kind (lines.Range range) = 3
line_kind (lines.Reserved reserved) = 9
line_kind (lines.Seed seed) = 4
line_kind (lines.Offset offset) = 5
line_kind (lines.TimeWaitReuse reuse) = 6
line_kind (lines.Capture dev net) = 8
line_kind (lines.Command command) = 7

-- no command begins like a header line, a section or a comment
command-kind : (c : Command) → words_kind (command_words c) ≡ 7
command-kind (commands.Socket label options) = refl
command-kind c = refl

-- a line and its words are of one kind
has_kind : (w : List (List ℕ)) (l : Line) → HasForm w l → words_kind w ≡ line_kind l
has_kind [] lines.PassedOver h = refl
has_kind ([] ∷ ws) lines.PassedOver h = absurd h
has_kind ((b ∷ bs) ∷ ws) lines.PassedOver h = ap (λ x. words_kind ((x ∷ bs) ∷ ws)) h
has_kind w (lines.Table shape) h = ap words_kind h.0
has_kind w (lines.Section number) h = ap words_kind h.0
has_kind w (lines.Range range) h = ap words_kind h.0
has_kind w (lines.Reserved reserved) h = ap words_kind h.0
has_kind w (lines.Seed seed) h = ap words_kind h.0
has_kind w (lines.Offset offset) h = ap words_kind h.0
has_kind w (lines.TimeWaitReuse reuse) h = ap words_kind h
has_kind w (lines.Capture dev net) h = ap words_kind h.0
has_kind w (lines.Command command) h = ap words_kind h.0 ∙ command-kind command

-- words are one line at most
pub one_form : (w : List (List ℕ)) (l m : Line) → HasForm w l → HasForm w m → l ≡ m
one_form w lines.PassedOver lines.PassedOver h k = refl
one_form w (lines.Table a) (lines.Table b) h k = ap lines.Table (one_shape a b h.1 k.1 (sym h.0 ∙ k.0))
one_form w (lines.Section n) (lines.Section m) h k =
    ap lines.Section (decimal_injective n m (omega (arith, h.2)) (omega (arith, k.2)) (second_is _ _ _ _ _ _ (sym h.0 ∙ k.0)))
one_form w (lines.Range a) (lines.Range b) h k = ap lines.Range (one_range a b h.1 k.1 (sym h.0 ∙ k.0))
one_form w (lines.Reserved a) (lines.Reserved b) h k = ap lines.Reserved (one_reserved a b h.1 k.1 (sym h.0 ∙ k.0))
one_form w (lines.Seed n) (lines.Seed m) h k =
    ap lines.Seed (decimal_injective n m (omega (arith, h.1)) (omega (arith, k.1)) (second_is _ _ _ _ _ _ (sym h.0 ∙ k.0)))
one_form w (lines.Offset n) (lines.Offset m) h k =
    ap lines.Offset (decimal_injective n m (omega (arith, h.1)) (omega (arith, k.1)) (second_is _ _ _ _ _ _ (sym h.0 ∙ k.0)))
one_form w (lines.TimeWaitReuse r) (lines.TimeWaitReuse s) h k = ap lines.TimeWaitReuse (one_switch r s (second_is _ _ _ _ _ _ (sym h ∙ k)))
one_form w (lines.Capture d m) (lines.Capture e n) h k =
    let dev = one_device d e _ _ h.1 k.1 (namespace-lacks_dev m) (namespace-lacks_dev n) (past_one _ _ _ _ (sym h.0 ∙ k.0)) in
    let net = one_namespace m n [] [] h.2 k.2 (λ l. cc) (λ l. cc) (sym (namespace-last m) ∙ dev.1 ∙ namespace-last n) in
    ap (λ t. lines.Capture t m) dev.0 ∙ ap (lines.Capture e) net.0
one_form w (lines.Command c) (lines.Command d) h k = ap lines.Command (one_command c d (sym h.0 ∙ k.0) h.1 k.1)
one_form w l m h k = absurd (never (line_kind l) (line_kind m) (sym (has_kind w l h) ∙ has_kind w m k) refl)
