-- The elements of a picture are well formed where what stands in them is.
use Rattle.std.proofs.Common.{◌≡◌, ℕ, Bool, true, false, List, [], ◌∷◌, ◌++◌, refl, codes, if◌then◌else◌}
use Rattle.std.specs.List.{list_all}
use Rattle.sock_card.specs.declared.card.Kind.{Kind}
use Rattle.sock_card.specs.declared.card.Kind.TheVariants as kinds
use Rattle.record_reader.specs.Forms.{kind_word}
use Rattle.race_picture.specs.declared.shapes.Area.{Area}
use Rattle.race_picture.specs.declared.shapes.Point.{Point}
use Rattle.race_picture.specs.Xml.{Attribute, element, is_plain, number}
use Rattle.race_picture.specs.Shapes.{class_of, line, rect, text_tag, title}
use Rattle.race_picture.specs.Shapes as shapes
use Rattle.race_picture.specs.WellFormed.{AreAttributes, IsAttribute, IsContent, is_name, filled, empty}
use Rattle.race_picture.proofs.Plain.{append_plain, decimal_plain, escaped_content}

pub none_are : AreAttributes []
none_are = record { are = tt; differ = tt }

wrong_plain : (wrong : Bool) → list_all is_plain (if wrong then codes " wrong" else []) ≡ true
wrong_plain true = refl
wrong_plain false = refl

class_is : (class : List ℕ) (wrong : Bool) → list_all is_plain class ≡ true → IsAttribute (class_of class wrong)
class_is class wrong h = record { name = refl; value = append_plain class _ h (wrong_plain wrong) }

pub number_is : (name : List ℕ) (n : ℕ) → is_name name ≡ true → IsAttribute (number name n)
number_is name n h = record { name = h; value = decimal_plain n }

-- the word of a kind is plain
pub kind_plain : (kind : Kind) → list_all is_plain (kind_word kind) ≡ true
kind_plain kinds.Full = refl
kind_plain kinds.TimeWait = refl
kind_plain kinds.Listen = refl
kind_plain kinds.Request = refl

pub rect_content : (class : List ℕ) (wrong : Bool) (a : Area) → list_all is_plain class ≡ true → IsContent (rect class wrong a)
unfolding rect
rect_content class wrong a h =
    empty (codes "rect") (class_of class wrong ∷ number (codes "x") a.x ∷ number (codes "y") a.y ∷ number (codes "width") a.width ∷ number (codes "height") a.height ∷ number (codes "rx") a.radius ∷ []) refl (record {
      are = (class_is class wrong h, (number_is (codes "x") a.x refl, (number_is (codes "y") a.y refl, (number_is (codes "width") a.width refl, (number_is (codes "height") a.height refl, (number_is (codes "rx") a.radius refl, tt))))));
      differ = ((refl, (refl, (refl, (refl, (refl, tt))))), ((refl, (refl, (refl, (refl, tt)))), ((refl, (refl, (refl, tt))), ((refl, (refl, tt)), ((refl, tt), (tt, tt))))));
    })

pub line_content : (class : List ℕ) (wrong : Bool) (from to : Point) → list_all is_plain class ≡ true → IsContent (line class wrong from to)
unfolding line
line_content class wrong from to h =
    empty (codes "line") (class_of class wrong ∷ number (codes "x1") from.x ∷ number (codes "y1") from.y ∷ number (codes "x2") to.x ∷ number (codes "y2") to.y ∷ []) refl (record {
      are = (class_is class wrong h, (number_is (codes "x1") from.x refl, (number_is (codes "y1") from.y refl, (number_is (codes "x2") to.x refl, (number_is (codes "y2") to.y refl, tt)))));
      differ = ((refl, (refl, (refl, (refl, tt)))), ((refl, (refl, (refl, tt))), ((refl, (refl, tt)), ((refl, tt), (tt, tt)))));
    })

pub text_content : (class : List ℕ) (wrong : Bool) (at : Point) {content : List ℕ} → list_all is_plain class ≡ true → IsContent content → IsContent (shapes.text class wrong at content)
unfolding text_tag
text_content class wrong at h within =
    filled (codes "text") (class_of class wrong ∷ number (codes "x") at.x ∷ number (codes "y") at.y ∷ []) refl (record {
      are = (class_is class wrong h, (number_is (codes "x") at.x refl, (number_is (codes "y") at.y refl, tt)));
      differ = ((refl, (refl, tt)), ((refl, tt), (tt, tt)));
    }) within

pub title_content : (said : List ℕ) → IsContent (title said)
unfolding title
title_content said = filled (codes "title") [] refl none_are (escaped_content said)

pub group_content : {content : List ℕ} → IsContent content → IsContent (element (codes "g") [] content)
group_content within = filled (codes "g") [] refl none_are within
