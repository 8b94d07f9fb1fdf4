-- Where a text stands.
use Rattle.std.specs.Prelude.{ℕ, List}
use Rattle.std.specs.Rc.{rc_str_bytes}
use Rattle.document_keys.specs.declared.held_text.Content.{Content}
use Rattle.document_keys.specs.declared.held_text.Content.TheVariants.{Short, Long}

-- the bytes of a text in either form
abbrev pub content_bytes : {most : ℕ} → Content most → List ℕ
content_bytes (Short short) = short
content_bytes (Long shared) = rc_str_bytes shared
