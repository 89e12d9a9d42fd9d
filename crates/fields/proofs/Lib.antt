-- lists of fields
pub mod FieldLists
