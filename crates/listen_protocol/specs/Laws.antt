-- Laws of the definitions of a watch stream.
use Rattle.std.specs.Prelude.{◌≡◌, ◌↔◌, ℤ, true}
use Rattle.std.specs.List.{Contains}
use Rattle.document_keys.specs.KeySet.{IsAscending}
use Rattle.listen_protocol.specs.Calls.{Key, Calls}
use Rattle.listen_protocol.specs.Incarnations.{incarnations, newest_is_asked, newest_is_live}
use Rattle.listen_protocol.specs.ToldKeys.{StartsAscend, told_keys}
use Rattle.listen_protocol.specs.Transcript.{IsTold, counts, is_asked_in, is_live}

-- of an id that counts the set has exactly the told keys, and its keys ascend where those of each add request do
pub record ToldKeysAreTold : Type 0 where
  pub members : (t : ℤ) (h : Calls) → counts t h ≡ true → (k : Key) → Contains (told_keys t h) k ↔ IsTold t h k
  pub ascend : (t : ℤ) (h : Calls) → StartsAscend h → IsAscending (told_keys t h)

-- the counts say of the newest incarnation what the incarnations one by one say
pub record LiveIsCounted : Type 0 where
  pub live : (t : ℤ) (h : Calls) → is_live t h ≡ newest_is_live (incarnations t h)
  pub is_asked : (t : ℤ) (h : Calls) → is_asked_in t h ≡ newest_is_asked (incarnations t h)

-- what counts is live, and what is live is asked
pub record CountingIsLive : Type 0 where
  pub live : (t : ℤ) (h : Calls) → counts t h ≡ true → is_live t h ≡ true
  pub is_asked : (t : ℤ) (h : Calls) → is_live t h ≡ true → is_asked_in t h ≡ true
