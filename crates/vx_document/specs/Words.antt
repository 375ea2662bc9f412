-- The sample words of a document: listed, or drawn from a seed.
use Rattle.std.specs.Prelude.{◌&&◌, ℕ, List, length, nat_le, Option, Some, None, option_map}
use Rattle.rand_core.specs.Pcg32Seed.{pcg32_seed}
use Rattle.rand_core.specs.Steps.{first_words}
use Rattle.rand_pcg.specs.Pcg.{pcg32, pcg32_of_seed}
use Rattle.serde_json.specs.Data.{Data}
use Rattle.serde_json.specs.Find.{as_number, as_array, as_u64}
use Rattle.vx_document.specs.Reading.{◌>>=◌, when, all_by}

-- the most words that a document may list, and the number that a seed stands for
abbrev pub most_words : ℕ
most_words = 1024

-- a whole number from 0 to 2^64 - 1
abbrev pub word_of : Data → Option ℕ
word_of d = as_number d >>= as_u64

-- 1 to 1,024 words
unfoldable pub words_of : Data → Option (List ℕ)
words_of d = do
  items ← as_array d
  words ← all_by word_of items
  _ ← when (nat_le 1 (length words) && nat_le (length words) most_words)
  Some words

-- the first 1,024 outputs, of 32 bits each, of the generator PCG32 with this seed
abbrev pub words_from : ℕ → List ℕ
words_from seed = first_words pcg32 most_words (pcg32_of_seed (pcg32_seed 16 seed))

-- the words of a list or those of a seed; both together and neither are no document
abbrev pub words_in : Option Data → Option Data → Option (List ℕ)
words_in (Some words) None = words_of words
words_in None (Some seed) = option_map words_from (word_of seed)
words_in (Some words) (Some seed) = None
words_in None None = None
