mod ShownReplies
mod ShownDues
mod ShownTables
