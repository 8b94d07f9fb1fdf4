-- The documents that a store lends are those of its state.
pub use Rattle.durable_state.specs.Documents.{DocumentsAreLocal, document_of, documents_of, entry_of, is_named, sealed_entry_of, standing_of, stored, touched_keys_of}
