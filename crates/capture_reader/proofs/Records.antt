-- Bytes are records of one list of items, and end in one way.
use Rattle.std.proofs.Common.{◌≡◌, ℕ, zero, suc, ◌+◌, ◌-◌, ◌<◌, ◌≤◌, List, [], ◌∷◌, length, take, drop, Bool, true, false, refl, ap, sym, ◌∙◌, subst, arith, inl, inr, not, ◌==◌, length-drop, length-append}
use Rattle.std.proofs.lemmas.Bool.{cases_lt, eqb-true}
use Rattle.std.proofs.lemmas.List.{take_at, drop_at, take-append-drop, length-take-le}
use Rattle.capture_reader.specs.declared.number.Order.{Order}
use Rattle.capture_reader.specs.declared.header.Header.{Header}
use Rattle.capture_reader.specs.declared.packet.Item.{Item}
use Rattle.capture_reader.specs.Items.{item_of}
use Rattle.capture_reader.specs.Captures.{Capture}
use Rattle.capture_reader.specs.Grammar.{stored_length, BeginsWithRecord, IsCutRecord, Ends, AreRecords}

-- where the bytes end there is no record
pub no_record : (order : Order) (bytes : List ℕ) (cut : Bool) (stored rest : List ℕ) → Ends order bytes cut → BeginsWithRecord order bytes stored rest → ⊥
no_record order bytes false stored rest e r = omega (arith, r.whole, ap length e)
no_record order bytes true stored rest e r =
    let sizes = length-drop 16 bytes in
    let parts = ap length r.body ∙ length-append stored rest in
    elim e.short [ inl h ↦ omega (arith, r.whole) | inr h ↦ omega (arith, r.whole, r.count, sizes, parts) ]

-- bytes end in one way
pub one_end : (order : Order) (bytes : List ℕ) (a b : Bool) → Ends order bytes a → Ends order bytes b → a ≡ b
one_end order bytes false false h k = refl
one_end order bytes false true h k = absurd (omega (arith, k.some, ap length h))
one_end order bytes true false h k = absurd (omega (arith, h.some, ap length k))
one_end order bytes true true h k = refl

-- a record stores these bytes alone
one_stored : (order : Order) (bytes stored rest : List ℕ) → BeginsWithRecord order bytes stored rest → take (stored_length order bytes) (drop 16 bytes) ≡ stored
one_stored order bytes stored rest r =
    ap (take (stored_length order bytes)) r.body ∙ take_at stored rest (stored_length order bytes) r.count

-- these bytes alone follow a record
one_rest : (order : Order) (bytes stored rest : List ℕ) → BeginsWithRecord order bytes stored rest → drop (stored_length order bytes) (drop 16 bytes) ≡ rest
one_rest order bytes stored rest r =
    ap (drop (stored_length order bytes)) r.body ∙ drop_at stored rest (stored_length order bytes) r.count

-- captures with equal fields are equal
pub same_capture : (a b : Capture) → a.items ≡ b.items → a.cut ≡ b.cut → a ≡ b
same_capture a b e f =
    let made : (xs ys : List Item) (c d : Bool) → xs ≡ ys → c ≡ d → (let x : Capture = record { items = xs; cut = c } in let y : Capture = record { items = ys; cut = d } in x ≡ y) = λ xs ys c d p q. cc in
    made a.items b.items a.cut b.cut e f

-- bytes are records of one list of items, and are cut or not
pub one_reading : (header : Header) (dev net : ℕ) (bytes : List ℕ) (xs ys : List Item) (a b : Bool) → AreRecords header dev net bytes xs a → AreRecords header dev net bytes ys b → (xs ≡ ys) × (a ≡ b)
one_reading header dev net bytes [] [] a b h k = (refl, one_end header.order bytes a b h k)
one_reading header dev net bytes [] (y ∷ ys) a b h k = absurd (no_record header.order bytes a k.0 k.1 h k.2)
one_reading header dev net bytes (x ∷ xs) [] a b h k = absurd (no_record header.order bytes b h.0 h.1 k h.2)
one_reading header dev net bytes (x ∷ xs) (y ∷ ys) a b h k =
    let stored : h.0 ≡ k.0 = sym (one_stored header.order bytes h.0 h.1 h.2) ∙ one_stored header.order bytes k.0 k.1 k.2 in
    let rest : k.1 ≡ h.1 = sym (one_rest header.order bytes k.0 k.1 k.2) ∙ one_rest header.order bytes h.0 h.1 h.2 in
    let item : x ≡ y = h.3 ∙ ap (item_of header.link dev net) stored ∙ sym k.3 in
    let more = one_reading header dev net h.1 xs ys a b h.4 (subst (λ r. AreRecords header dev net r ys b) rest k.4) in
    let items = more.0 in (cc, more.1)

-- how bytes without a whole record end, by whether any are left
pub ends_as : (order : Order) (bytes : List ℕ) (empty : Bool) → empty ≡ (length bytes == 0) → (0 < length bytes → IsCutRecord order bytes) → Ends order bytes (not empty)
ends_as order [] true e cut = refl
ends_as order [] false e cut = cc
ends_as order (b ∷ bytes) true e cut = absurd (omega (arith, eqb-true (length (b ∷ bytes)) 0 (sym e)))
ends_as order (b ∷ bytes) false e cut = cut (omega arith)

-- bytes of which so many are left are some records, and an end
some_reading : (fuel : ℕ) (header : Header) (dev net : ℕ) (bytes : List ℕ) → length bytes ≤ fuel → (items : List Item) × ((cut : Bool) × AreRecords header dev net bytes items cut)
some_reading fuel header dev net [] h = ([], (false, refl))
some_reading zero header dev net (b ∷ bytes) h = absurd (omega arith)
some_reading (suc fuel) header dev net (b ∷ bytes) h =
    let all : List ℕ = b ∷ bytes in
    let count : ℕ = stored_length header.order all in
    elim (cases_lt (length all) 16) [
      | inl few ↦ ([], (true, record { some = omega arith; short = inl few }))
      | inr enough ↦ elim (cases_lt (length all) (16 + count)) [
        | inl few ↦ ([], (true, record { some = omega arith; short = inr few }))
        | inr whole ↦
            let body : List ℕ = drop 16 all in
            let stored : List ℕ = take count body in
            let rest : List ℕ = drop count body in
            let size : length body ≡ length all - 16 = length-drop 16 all in
            let left : length rest ≡ length body - count = length-drop count body in
            let more = some_reading fuel header dev net rest (omega arith) in
            let begins : BeginsWithRecord header.order all stored rest = record { whole = enough; count = length-take-le count body (omega arith); body = sym (take-append-drop count body) } in
            (item_of header.link dev net stored ∷ more.0, (more.1.0, (stored, rest, begins, refl, more.1.1)))
      ]
    ]

-- bytes are some records, and an end
pub some_records : (header : Header) (dev net : ℕ) (bytes : List ℕ) → (items : List Item) × ((cut : Bool) × AreRecords header dev net bytes items cut)
some_records header dev net bytes = some_reading (length bytes) header dev net bytes (omega arith)
