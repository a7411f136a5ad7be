use Rattle.std.specs.Prelude.{◌≡◌, ℕ, ◌+◌, ◌/◌, ◌%◌, ◌==◌, not, Bool, true, false, List, [], ◌∷◌, ◌++◌, length, Result, Ok, Err, if◌then◌else◌, nat_lt, slice_index, slice_range, take, drop, replicate, codes}
use Rattle.std.specs.List.{list_all}
use Rattle.std.specs.Result.{result_map_both}
use Rattle.th_units.specs.Lengths.{is_digit, number}
use Rattle.gsi_word.specs.Bytes.{is_info, is_sign, is_data}
use Rattle.gsi_word.specs.declared.words.Width.{Width}
use Rattle.gsi_word.specs.declared.words.Width.TheVariants.{Eight, Sixteen}
use Rattle.gsi_word.specs.declared.words.Word.{Word}
use Rattle.gsi_word.specs.declared.faults.WordFault.{WordFault}
use Rattle.gsi_word.specs.declared.faults.WordFault.TheVariants.{Short, BadIndex, BadInfo, BadSign, BadData}

-- a word's parts: the index, the information of positions 3 to 6, whether the sign is a minus, and the data
pub record Parts : Type 0 where
  pub index : ℕ
  pub info : List ℕ
  pub negative : Bool
  pub body : List ℕ

-- the word with these parts
abbrev pub parts : ℕ → List ℕ → Bool → List ℕ → Parts
parts index info negative body = record { index = index; info = info; negative = negative; body = body }

-- the parts of a `Word`
abbrev pub parts_of : Word → Parts
parts_of word = record { index = word.index; info = word.info; negative = word.negative; body = word.body.now }

-- the placeholder that fills an array before words are read: index 0, four dots, a plus and eight zeros
abbrev pub filler : Parts
filler = record { index = 0; info = replicate 4 46; negative = false; body = replicate 8 48 }

-- a result with a function applied to its value; a fault is unchanged
abbrev pub result_map : {A B E : Type 0} → (A → B) → Result A E → Result B E
result_map see result = result_map_both see (λ fault. fault) result

-- how many bytes of data a word has
abbrev pub data_len : Width → ℕ
data_len Eight = 8
data_len Sixteen = 16

-- The length of a word's spelling in bytes: two for the index, four for the information, one for the sign, and the data. The star before
-- a GSI-16 block, and the space after a word that the manual counts as the word's last position, belong to the block.
abbrev pub spelling_len : Width → ℕ
spelling_len width = 7 + data_len width

-- The bytes are exactly the word's spelling, with nothing after it. The manual's positions count from 1, places of bytes from 0.
pub record Spells (word : Parts) (bytes : List ℕ) (width : Width) : Type 0 where
  pub length : length bytes ≡ spelling_len width
  pub index_digits : list_all is_digit (take 2 bytes) ≡ true
  pub index : word.index ≡ number (take 2 bytes)
  pub info_bytes : list_all is_info word.info ≡ true
  pub info : word.info ≡ slice_range bytes 2 6
  pub sign : is_sign (slice_index bytes 6) ≡ true
  pub negative : word.negative ≡ (slice_index bytes 6 == 45)
  pub body_bytes : list_all is_data word.body ≡ true
  pub body : word.body ≡ drop 7 bytes

-- some bytes spell the word, in one of the two widths
abbrev pub HasSpelling : Parts → Type 0
HasSpelling word = (width : Width) × (bytes : List ℕ) × Spells word bytes width

-- The one spelling of a word that has one: two digits of its index, its information, a minus or a plus, and its data.
abbrev pub spelling_of : Parts → List ℕ
spelling_of word =
    (48 + word.index / 10) ∷ (48 + word.index % 10) ∷ word.info ++ (if word.negative then 45 else 43) ∷ word.body

-- a word as its block contains it: its spelling, and the space that closes it
abbrev pub closed : Parts → List ℕ
closed word = spelling_of word ++ 32 ∷ []

-- the parts of a word, taken from their places in a spelling
abbrev pub parts_in : List ℕ → Parts
parts_in bytes = record {
  index = number (take 2 bytes);
  info = slice_range bytes 2 6;
  negative = slice_index bytes 6 == 45;
  body = drop 7 bytes;
}

-- The word that the first bytes spell in a given width; what follows the spelling does not matter. Too few bytes
-- are reported first, whatever they are; then the first part that has a byte not allowed there.
abbrev pub word_at : Width → List ℕ → Result Parts WordFault
word_at width bytes =
    let spelling = take (spelling_len width) bytes in
    if nat_lt (length bytes) (spelling_len width) then Err Short
    else (if not (list_all is_digit (take 2 spelling)) then Err BadIndex
    else (if not (list_all is_info (slice_range spelling 2 6)) then Err BadInfo
    else (if not (is_sign (slice_index spelling 6)) then Err BadSign
    else (if not (list_all is_data (drop 7 spelling)) then Err BadData
    else Ok (parts_in spelling)))))

-- the text of a fault
abbrev pub fault_text : WordFault → List ℕ
fault_text Short = codes "short"
fault_text BadIndex = codes "bad index"
fault_text BadInfo = codes "bad information"
fault_text BadSign = codes "bad sign"
fault_text BadData = codes "bad data"
