-- What each edition means, and the word for it.
use Rattle.std.specs.Prelude.{◌≡◌, ℕ, max, List, [], ◌∷◌, Some, None, codes, Option, ◌≢◌}
use Rattle.account.specs.View.{View}
use Rattle.measure.specs.Grouped.{grouped}
use Rattle.least.specs.SubType.{sub_type}
use Rattle.edition.specs.declared.edition.Edition.{Edition}
use Rattle.edition.specs.declared.edition.Edition.TheVariants.{Grouped, SubType, Greater}

abbrev pub edition_of : Edition → View → ℕ
edition_of Grouped v = grouped v
edition_of SubType v = sub_type v
edition_of Greater v = max (grouped v) (sub_type v)

abbrev pub word_of : Edition → List ℕ
word_of Grouped = codes "grouped"
word_of SubType = codes "subtype"
word_of Greater = codes "greater"

-- the edition that the word stands for, or none where it stands for no edition
abbrev pub Named : List ℕ → Option Edition → Type 0
Named word (Some e) = word ≡ word_of e
Named word None = (e : Edition) → word ≢ word_of e

abbrev pub all_editions : List Edition
all_editions = Grouped ∷ SubType ∷ Greater ∷ []
